-- Laws of the second reading: which rules are done, and which come next. Assumes nothing.
use Rattle.std.specs.Prelude.{◌≡◌, refl, Bool, true, false, cond, List, [], ◌∷◌, ◌++◌, ℕ, ◌+◌, ◌≤◌, ◌<◌, eqb, leb, length, drop, Option, Some, None}
use Rattle.std.proofs.Common.{sym, ◌∙◌, append_assoc, append-nil, zero-le, arith, eqb-true, leb-true, ap}
use Rattle.reader.specs.own.Scan.{line_at}
use Rattle.text.specs.own.Split.{end_of, parts_from}
use Rattle.text.specs.Split.{fields, lines}
use Rattle.text.specs.laws.Split.{end_ge, end-le, parts_all, parts_next, parts_none}
use Rattle.field.specs.declared.Form.{Form}
use Rattle.field.specs.declared.Form.TheVariants as form
use Rattle.sheet.specs.declared.RuleLine.{RuleLine}
use Rattle.field.specs.declared.RuleWord.{RuleWord}
use Rattle.field.specs.Due.{none}
use Rattle.line.specs.Fault.{header_fault, line_fault, line_limit, room_by, sheet_limit}
use Rattle.field.specs.Names.{Names}
use Rattle.sheet.specs.declared.Start.{Start}
use Rattle.sheet.specs.own.Pass.{Passing, RuleIfReady, found_rule, line_rule}
use Rattle.sheet.specs.own.Stands.{Since}
use Rattle.saying.specs.Read.{rule_of}
use Rattle.sheet.specs.Said.{Outcome, Said, SheetRule, line_said, marks_of, nothing, outcome, outcome_from, outcome_of, saying}
use Rattle.sheet.specs.Said.Outcome.{accepted, refused}
use Rattle.field.specs.own.Table.{Table, names_of}
use Rattle.field.specs.Words.{Field, body_of, form_of}
use Rattle.field.specs.laws.Words.{body-words}
use Rattle.line.proofs.laws.Accepted.{line-accepted, right-short}
use Rattle.line.specs.laws.Some.{rule-some}
use Rattle.sheet.specs.laws.Settled.{rule-begun, sheet-settled}

-- what was said up to the end
abbrev pub said_of : Outcome → Said
said_of (refused n w s) = s
said_of (accepted s) = s

-- a sheet is not both refused and accepted
pub not-both : {n k : ℕ} {x y : Said} → refused n k x ≡ accepted y → ⊥
not-both q = let z : ◌≡◌ {A = ℕ} 0 1 = cc in omega arith

-- ---- lines of an accepted sheet

-- a line of an accepted sheet has no fault, and the lines after it are accepted
pub accepted-step : (k : ℕ) (s x : Said) (l : List ℕ) (ls : List (List ℕ)) → outcome_from k s (l ∷ ls) ≡ accepted x
    → (line_fault s.names (marks_of s) l ≡ 0) × (outcome_from (k + 1) (line_said k s l) ls ≡ accepted x)
unfolding outcome_from
accepted-step k s x l ls e = go (eqb (line_fault s.names (marks_of s) l) 0) refl e
  where
    go : (t : Bool) → eqb (line_fault s.names (marks_of s) l) 0 ≡ t → cond t (outcome_from (k + 1) (line_said k s l) ls) (refused k (line_fault s.names (marks_of s) l) s) ≡ accepted x
        → (line_fault s.names (marks_of s) l ≡ 0) × (outcome_from (k + 1) (line_said k s l) ls ≡ accepted x)
    go true q h = (eqb-true _ _ q, h)
    go false q h = let z : ◌≡◌ {A = ℕ} 0 1 = cc in absurd (omega arith)

-- an accepted sheet is not too long, its first line is the header, and the lines after it are accepted
pub accepted-lines : (W : ℕ) (sheet l : List ℕ) (ls : List (List ℕ)) (x : Said) → lines sheet ≡ l ∷ ls → outcome W sheet ≡ accepted x
    → (length sheet ≤ sheet_limit) × (header_fault W l ≡ 0) × (outcome_from 2 (nothing (room_by l)) ls ≡ accepted x)
unfolding outcome
accepted-lines W sheet l ls x are e = go (leb (length sheet) sheet_limit) refl e
  where
    header : (t : Bool) → eqb (header_fault W l) 0 ≡ t → cond t (outcome_from 2 (nothing (room_by l)) ls) (refused 1 (header_fault W l) (nothing 0)) ≡ accepted x → (header_fault W l ≡ 0) × (outcome_from 2 (nothing (room_by l)) ls ≡ accepted x)
    header true q h = (eqb-true _ _ q, h)
    header false q h = let z : ◌≡◌ {A = ℕ} 0 1 = cc in absurd (omega arith)

    go : (t : Bool) → leb (length sheet) sheet_limit ≡ t → cond t (outcome_of W (lines sheet)) (refused 0 9 (nothing 0)) ≡ accepted x → (length sheet ≤ sheet_limit) × (header_fault W l ≡ 0) × (outcome_from 2 (nothing (room_by l)) ls ≡ accepted x)
    go true q h = let a = header _ refl (rw are at h) in (leb-true _ _ q, a.0, a.1)
    go false q h = let z : ◌≡◌ {A = ℕ} 0 1 = cc in absurd (omega arith)

pub accepted-start : (W : ℕ) (sheet : List ℕ) (x : Said) → outcome W sheet ≡ accepted x → (room : ℕ) × (length sheet ≤ sheet_limit) × (outcome_from 2 (nothing room) (parts_from 10 sheet (end_of 10 sheet 0 + 1)) ≡ accepted x)
accepted-start W sheet x e = let a = accepted-lines W sheet _ _ x (sym (parts_all 10 sheet) ∙ parts_next 10 sheet 0 zero-le) e in (_, a.0, a.2)

-- a sheet says the same with every store with which it is accepted
pub accepted-same : (W U : ℕ) (sheet : List ℕ) {x y : Said} → outcome W sheet ≡ accepted x → outcome U sheet ≡ accepted y → x ≡ y
accepted-same W U sheet {x} {y} o q =
    let are = sym (parts_all 10 sheet) ∙ parts_next 10 sheet 0 zero-le in
    ap said_of (sym (accepted-lines W sheet _ _ x are o).2 ∙ (accepted-lines U sheet _ _ y are q).2)

-- ---- one line

-- a line that is no rule leaves the rules
saying-rules : (k past : ℕ) (n : Names) (s : Said) (fs : List Field) (f : Form) → line_rule n f fs k past ≡ None → (saying k s f fs).rules ≡ s.rules
saying-rules k past n s fs form.Concept e = refl
saying-rules k past n s fs form.Role e = refl
saying-rules k past n s fs form.Item e = refl
saying-rules k past n s fs (form.Statement w) e = refl
saying-rules k past n s fs (form.Rule w) e = absurd (cc)
saying-rules k past n s fs form.Bare e = refl
saying-rules k past n s fs form.Unknown e = refl

-- a line that is one has a rule word
saying-found : (k past : ℕ) (n : Names) (fs : List Field) (r : RuleLine) (f : Form) → line_rule n f fs k past ≡ Some r → (w : RuleWord) × (f ≡ form.Rule w) × (r ≡ record { line = k; past = past; rule = rule_of n w fs })
saying-found k past n fs r form.Concept e = absurd (cc)
saying-found k past n fs r form.Role e = absurd (cc)
saying-found k past n fs r form.Item e = absurd (cc)
saying-found k past n fs r (form.Statement w) e = absurd (cc)
saying-found k past n fs r (form.Rule w) e = (w, refl, cc)
saying-found k past n fs r form.Bare e = absurd (cc)
saying-found k past n fs r form.Unknown e = absurd (cc)

said-rules : (k past : ℕ) (n : Names) (s : Said) (l : List ℕ) → line_rule n (form_of (fields l)) (body_of (fields l)) k past ≡ None → (line_said k s l).rules ≡ s.rules
unfolding line_said
said-rules k past n s l e = go (none l)
  where
    go : (t : Bool) → (cond t s (saying k s (form_of (fields l)) (body_of (fields l)))).rules ≡ s.rules
    go true = refl
    go false = saying-rules k past n s (body_of (fields l)) (form_of (fields l)) e

pub rule-said : (k : ℕ) (s : Said) (l : List ℕ) (w : RuleWord) → form_of (fields l) ≡ form.Rule w → line_said k s l ≡ saying k s (form.Rule w) (body_of (fields l))
unfolding line_said
rule-said k s l w e = rw (rule-some l w e, e)

-- its fields after its words
pub rule-body : (l : List ℕ) (w : RuleWord) → form_of (fields l) ≡ form.Rule w → drop 2 (fields l) ≡ body_of (fields l)
rule-body l w e = rw e at (body-words (fields l) (λ u. let z : form.Unknown ≡ form.Rule w = sym u ∙ e in absurd (not-rule w z)))
  where
    not-rule : (v : RuleWord) → form.Unknown ≡ form.Rule v → ⊥
    not-rule v z = let y : ◌≡◌ {A = ℕ} 0 1 = cc in omega arith

-- ---- the second reading at a line

module _ {sheet : List ℕ} {t : Table} {x : Said} {done : List SheetRule} {at k : ℕ} (p : Passing sheet t x done at k) where
  -- no line is left: all rules are done
  pub passing-end : length sheet < at → x.rules ≡ done
  unfolding outcome_from
  passing-end g =
      let e : accepted p.said ≡ accepted x = rw (parts_none 10 sheet at g) at p.rest in
      ap (λ (o : Outcome). (said_of o).rules) (sym e) ∙ p.rules

  -- a line, and its end
  module _ (e : ℕ) (l : List ℕ) (g : at ≤ length sheet) (ends : e ≡ end_of 10 sheet at) (is : l ≡ line_at sheet at) where
    stepped : (line_fault p.said.names (marks_of p.said) l ≡ 0) × (outcome_from (k + 1) (line_said k p.said l) (parts_from 10 sheet (e + 1)) ≡ accepted x)
    stepped =
        let parted : parts_from 10 sheet at ≡ l ∷ parts_from 10 sheet (e + 1) = parts_next 10 sheet at g ∙ rw (is, ends) in
        accepted-step k p.said x l (parts_from 10 sheet (e + 1)) (rw parted at p.rest)

    -- the line is not too long
    pub passing-short : length l ≤ line_limit
    passing-short = right-short p.said.names (marks_of p.said) l stepped.0

    -- the fields of a rule are those that are due
    pub passing-ready : RuleIfReady l
    passing-ready w f =
        let a = (line-accepted p.said.names (marks_of p.said) l (rule-some l w f) stepped.0).1 in
        let b = rw f at a in
        record { fit = b.right.fit; room = b.nodes }

    -- one rule more, with its word
    passing-word : (w : RuleWord) → form_of (fields l) ≡ form.Rule w → Passing sheet t x (done ++ record { line = k; rule = rule_of (names_of sheet t) w (body_of (fields l)) } ∷ []) (e + 1) (k + 1)
    passing-word w f =
        let body = body_of (fields l) in
        let s = rule-said k p.said l w f in
        let b : x.names ≡ p.said.names = sheet-settled (k + 1) (saying k p.said (form.Rule w) body) x (parts_from 10 sheet (e + 1)) (rule-begun k p.said w body) (rw s at stepped.1) in
        record {
          said = line_said k p.said l;
          names = p.names;
          rules =
              ap (λ (y : Said). y.rules) s ∙ ap (λ (rs : List SheetRule). rs ++ record { line = k; rule = rule_of p.said.names w body } ∷ []) p.rules
              ∙ ap (λ (n : Names). done ++ record { line = k; rule = rule_of n w body } ∷ []) (sym b ∙ p.names);
          rest = stepped.1;
          short = p.short;
          inside = omega (arith, ends, end-le 10 sheet at g);
          near = omega (arith, p.near, ends, end_ge 10 sheet at);
        }

    module _ {r : Option RuleLine} (q : r ≡ line_rule (names_of sheet t) (form_of (fields l)) (body_of (fields l)) k (e + 1)) where
      -- no rule
      pub passing-on : r ≡ None → Passing sheet t x done (e + 1) (k + 1)
      passing-on f =
          record {
            said = line_said k p.said l;
            names = p.names;
            rules = said-rules k (e + 1) (names_of sheet t) p.said l (sym q ∙ f) ∙ p.rules;
            rest = stepped.1;
            short = p.short;
            inside = omega (arith, ends, end-le 10 sheet at g);
            near = omega (arith, p.near, ends, end_ge 10 sheet at);
          }

      -- the place past the line of a rule
      pub passing-past : (u : RuleLine) → r ≡ Some u → u.past ≡ e + 1
      passing-past u f = ap (λ (v : RuleLine). v.past) (saying-found k (e + 1) (names_of sheet t) (body_of (fields l)) u (form_of (fields l)) (sym q ∙ f)).2

      -- one rule more
      pub passing-rule : (u : RuleLine) → r ≡ Some u → Passing sheet t x (done ++ found_rule u ∷ []) u.past (u.line + 1)
      passing-rule u f =
          let z = saying-found k (e + 1) (names_of sheet t) (body_of (fields l)) u (form_of (fields l)) (sym q ∙ f) in
          rw z.2 (passing-word z.0 z.1)

-- the first line after the header
pub passing-start : (W : ℕ) (sheet : List ℕ) (t : Table) (x : Said) (e : ℕ) → e ≡ end_of 10 sheet 0 → outcome W sheet ≡ accepted x → x.names ≡ names_of sheet t → Passing sheet t x [] (e + 1) 2
passing-start W sheet t x e ends o n =
    let z = accepted-start W sheet x o in
    record { said = nothing z.0; names = n; rules = refl; rest = rw ends z.2; short = z.1; inside = omega (arith, ends, end-le 10 sheet 0 zero-le); near = omega arith }

-- where the rules begin
pub passing-since : (W : ℕ) (sheet : List ℕ) (t : Table) (x : Said) (b : Start) → Since W sheet b → outcome W sheet ≡ accepted x → x.names ≡ names_of sheet t → Passing sheet t x [] b.at b.line
passing-since W sheet t x b w o n =
    record { said = w.said; names = n; rules = w.rules; rest = w.rest ∙ o; short = (accepted-start W sheet x o).1; inside = w.inside; near = w.near }

-- ---- what is done is the first part of all

rules-grow : (k : ℕ) (s : Said) (l : List ℕ) → (rest : List SheetRule) × ((line_said k s l).rules ≡ s.rules ++ rest)
unfolding line_said
rules-grow k s l = go (none l) (form_of (fields l))
  where
    go : (t : Bool) (f : Form) → (rest : List SheetRule) × ((cond t s (saying k s f (body_of (fields l)))).rules ≡ s.rules ++ rest)
    go true f = ([], sym (append-nil s.rules))
    go false form.Concept = ([], sym (append-nil s.rules))
    go false form.Role = ([], sym (append-nil s.rules))
    go false form.Item = ([], sym (append-nil s.rules))
    go false (form.Statement w) = ([], sym (append-nil s.rules))
    go false (form.Rule w) = (_, refl)
    go false form.Bare = ([], sym (append-nil s.rules))
    go false form.Unknown = ([], sym (append-nil s.rules))

rules-rest : (k : ℕ) (s x : Said) (ls : List (List ℕ)) → outcome_from k s ls ≡ accepted x → (rest : List SheetRule) × (x.rules ≡ s.rules ++ rest)
unfolding outcome_from
rules-rest k s x [] e = ([], ap (λ (o : Outcome). (said_of o).rules) (sym e) ∙ sym (append-nil s.rules))
rules-rest k s x (l ∷ ls) e =
    let z = accepted-step k s x l ls e in
    let a = rules-rest (k + 1) (line_said k s l) x ls z.1 in
    let b = rules-grow k s l in
    (b.0 ++ a.0, a.1 ∙ ap (λ (rs : List SheetRule). rs ++ a.0) b.1 ∙ append_assoc s.rules b.0 a.0)

-- the rules of the sheet are those that are done, and the rest
pub passing-rest : {sheet : List ℕ} {t : Table} {x : Said} {done : List SheetRule} {at k : ℕ} → Passing sheet t x done at k → (rest : List SheetRule) × (x.rules ≡ done ++ rest)
passing-rest {sheet} {x = x} {at = at} {k = k} p = let a = rules-rest k p.said x (parts_from 10 sheet at) p.rest in (a.0, a.1 ∙ ap (λ (rs : List SheetRule). rs ++ a.0) p.rules)
