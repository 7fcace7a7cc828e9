-- Laws of the second reading: which statements are done, and which come next. Assumes nothing.
use Rattle.std.specs.Prelude.{◌≡◌, refl, Bool, true, false, cond, Some, None, List, [], ◌∷◌, ◌++◌, ℕ, ◌+◌, ◌≤◌, ◌<◌, length}
use Rattle.std.proofs.Common.{sym, ◌∙◌, subst, zero-le, arith, length-append}
use Rattle.std.proofs.Math.Path.{ap}
use Rattle.reader.specs.own.Scan.{line_at}
use Rattle.text.specs.own.Split.{end_of, parts_from}
use Rattle.text.specs.Split.{fields}
use Rattle.text.specs.laws.Split.{end_ge, end-le, parts_next, parts_none}
use Rattle.store.specs.Cell.{Within, cell_of}
use Rattle.field.specs.declared.Form.{Form}
use Rattle.field.specs.declared.Form.TheVariants as form
use Rattle.field.specs.declared.StatementWord.{StatementWord}
use Rattle.field.specs.Due.{lineup_of, none}
use Rattle.line.specs.Fault.{begun, line_fault, line_limit}
use Rattle.field.specs.Names.{Names, counts_of}
use Rattle.sheet.specs.Said.{Outcome, Said, SheetStatement, line_said, marks_of, nothing, outcome, outcome_from, saying}
use Rattle.stated.specs.Stated.{statement_of}
use Rattle.sheet.specs.Said.Outcome.{accepted}
use Rattle.field.specs.own.Table.{Table, names_of}
use Rattle.field.specs.Words.{Field, body_of, form_of}
use Rattle.field.specs.laws.Right.{Right}
use Rattle.line.proofs.laws.Accepted.{line-accepted, right-short}
use Rattle.stated.specs.laws.Stated.{statement-within}
use Rattle.line.specs.laws.Some.{statement-some}
use Rattle.sheet.specs.laws.Pass.{accepted-start, accepted-step, said_of}
use Rattle.sheet.specs.laws.Settled.{none_last, sheet-settled}
use Rattle.why.specs.declared.StatementLine.{StatementLine}
use Rattle.why.specs.own.Stating.{LineStatement, Next, Passing, Paused, found_statement}

-- ---- one line

-- a line that is no statement leaves the statements
saying-statements : (k past : ℕ) (n : Names) (s : Said) (fs : List Field) (f : Form) → LineStatement n f fs k past None → (saying k s f fs).statements ≡ s.statements
saying-statements k past n s fs form.Concept l = refl
saying-statements k past n s fs form.Role l = refl
saying-statements k past n s fs form.Item l = refl
saying-statements k past n s fs (form.Statement w) l = cc
saying-statements k past n s fs (form.Rule w) l = refl
saying-statements k past n s fs form.Bare l = refl
saying-statements k past n s fs form.Unknown l = refl

-- a line that is one has a statement word
saying-found : (k past : ℕ) (n : Names) (fs : List Field) (r : StatementLine) (f : Form) → LineStatement n f fs k past (Some r)
    → (w : StatementWord) × (f ≡ form.Statement w) × (r ≡ record { line = k; past = past; statement = statement_of n w fs })
saying-found k past n fs r form.Concept l = absurd (cc)
saying-found k past n fs r form.Role l = absurd (cc)
saying-found k past n fs r form.Item l = absurd (cc)
saying-found k past n fs r (form.Statement w) l = (w, refl, cc)
saying-found k past n fs r (form.Rule w) l = absurd (cc)
saying-found k past n fs r form.Bare l = absurd (cc)
saying-found k past n fs r form.Unknown l = absurd (cc)

said-statements : (k past : ℕ) (n : Names) (s : Said) (l : List ℕ) → LineStatement n (form_of (fields l)) (body_of (fields l)) k past None → (line_said k s l).statements ≡ s.statements
unfolding line_said
said-statements k past n s l q = go (none l)
  where
    go : (t : Bool) → (cond t s (saying k s (form_of (fields l)) (body_of (fields l)))).statements ≡ s.statements
    go true = refl
    go false = saying-statements k past n s (body_of (fields l)) (form_of (fields l)) q

statement-said : (k : ℕ) (s : Said) (l : List ℕ) (w : StatementWord) → form_of (fields l) ≡ form.Statement w → line_said k s l ≡ saying k s (form.Statement w) (body_of (fields l))
unfolding line_said
statement-said k s l w e = rw (statement-some l w e, e)

-- once a statement was accepted, the sheet has begun
statement-begun : (k : ℕ) (x : Said) (w : StatementWord) (fs : List Field) → begun (marks_of (saying k x (form.Statement w) fs)) ≡ true
statement-begun k x w fs = rw none_last

-- ---- the second reading at a line

module _ {sheet : List ℕ} {t : Table} {x : Said} {done : List SheetStatement} {at k : ℕ} (p : Passing sheet t x done at k) where
  -- no line is left: all statements are done
  pub passing-end : length sheet < at → x.statements ≡ done
  unfolding outcome_from
  passing-end g =
      let e : accepted p.said ≡ accepted x = rw (parts_none 10 sheet at g) at p.rest in
      ap (λ (o : Outcome). (said_of o).statements) (sym e) ∙ p.statements

  -- a line, and its end
  module _ (e : ℕ) (l : List ℕ) (g : at ≤ length sheet) (ends : e ≡ end_of 10 sheet at) (is : l ≡ line_at sheet at) where
    stepped : (line_fault p.said.names (marks_of p.said) l ≡ 0) × (outcome_from (k + 1) (line_said k p.said l) (parts_from 10 sheet (e + 1)) ≡ accepted x)
    stepped =
        let parted : parts_from 10 sheet at ≡ l ∷ parts_from 10 sheet (e + 1) = parts_next 10 sheet at g ∙ rw (is, ends) in
        accepted-step k p.said x l (parts_from 10 sheet (e + 1)) (rw parted at p.rest)

    -- the line is not too long
    pub passing-short : length l ≤ line_limit
    passing-short = right-short p.said.names (marks_of p.said) l stepped.0

    -- one statement more, with its word
    module _ (w : StatementWord) (f : form_of (fields l) ≡ form.Statement w) where
      settled : x.names ≡ p.said.names
      settled =
          let s = statement-said k p.said l w f in
          sheet-settled (k + 1) (saying k p.said (form.Statement w) (body_of (fields l))) x (parts_from 10 sheet (e + 1)) (statement-begun k p.said w (body_of (fields l))) (rw s at stepped.1)

      passing-word : Passing sheet t x (done ++ record { line = k; statement = statement_of (names_of sheet t) w (body_of (fields l)) } ∷ []) (e + 1) (k + 1)
      passing-word =
          let body = body_of (fields l) in
          record {
            said = line_said k p.said l;
            names = p.names;
            statements =
                ap (λ (y : Said). y.statements) (statement-said k p.said l w f) ∙ ap (λ (rs : List SheetStatement). rs ++ record { line = k; statement = statement_of p.said.names w body } ∷ []) p.statements
                ∙ ap (λ (n : Names). done ++ record { line = k; statement = statement_of n w body } ∷ []) (sym settled ∙ p.names);
            rest = stepped.1;
            short = p.short;
            inside = omega (arith, ends, end-le 10 sheet at g);
            near = omega (arith, p.near, ends, end_ge 10 sheet at);
          }

      -- what the line has as an accepted one
      right-word : Right p.said.names (lineup_of (form.Statement w) (length (body_of (fields l)))) (body_of (fields l))
      right-word = let a = (line-accepted p.said.names (marks_of p.said) l (statement-some l w f) stepped.0).1 in (rw f at a).right

      -- its numbers are below their counts
      within_word : Within (counts_of x.names) (cell_of (statement_of (names_of sheet t) w (body_of (fields l))))
      within_word =
          rw (← p.names) (subst (λ (n : Names). Within (counts_of n) (cell_of (statement_of n w (body_of (fields l))))) (sym settled) (statement-within p.said.names w (body_of (fields l)) right-word))

    -- no statement
    pub passing-on : LineStatement (names_of sheet t) (form_of (fields l)) (body_of (fields l)) k (e + 1) None → Passing sheet t x done (e + 1) (k + 1)
    passing-on q =
        record {
          said = line_said k p.said l;
          names = p.names;
          statements = said-statements k (e + 1) (names_of sheet t) p.said l q ∙ p.statements;
          rest = stepped.1;
          short = p.short;
          inside = omega (arith, ends, end-le 10 sheet at g);
          near = omega (arith, p.near, ends, end_ge 10 sheet at);
        }

    module _ (r : StatementLine) (q : LineStatement (names_of sheet t) (form_of (fields l)) (body_of (fields l)) k (e + 1) (Some r)) where
      -- the place past the line of a statement
      pub passing-past : r.past ≡ e + 1
      passing-past = ap (λ (u : StatementLine). u.past) (saying-found k (e + 1) (names_of sheet t) (body_of (fields l)) r (form_of (fields l)) q).2

      -- one statement more
      pub passing-statement : Passing sheet t x (done ++ found_statement r ∷ []) r.past (r.line + 1) × Within (counts_of x.names) (cell_of r.statement)
      passing-statement =
          let z = saying-found k (e + 1) (names_of sheet t) (body_of (fields l)) r (form_of (fields l)) q in
          rw z.2 (passing-word z.0 z.1, within_word z.0 z.1)

-- the first line after the header
pub passing-start : (W : ℕ) (sheet : List ℕ) (t : Table) (x : Said) (e : ℕ) → e ≡ end_of 10 sheet 0 + 1 → outcome W sheet ≡ accepted x → x.names ≡ names_of sheet t → Passing sheet t x [] e 2
passing-start W sheet t x e ends o n =
    let z = accepted-start W sheet x o in
    record { said = nothing z.0; names = n; statements = refl; rest = rw ends z.2; short = z.1; inside = omega (arith, ends, end-le 10 sheet 0 zero-le); near = omega arith }

-- what comes next lies within the sheet
pub next-inside : {sheet : List ℕ} {t : Table} {at k : ℕ} {q : StatementLine} → Next sheet t at k (Some q) → Paused sheet t at k → q.past ≤ length sheet + 2
next-inside n p = let v = n.statement p.all p.before p.passing in omega (arith, v.0.inside)

-- ---- going through the statements

-- the second reading stands past n statements, of which P holds
pub record Turn (sheet : List ℕ) (t : Table) (x : Said) (P : List SheetStatement → Type 0) (at k n : ℕ) : Type 0 where
  pub done : List SheetStatement
  pub passing : Passing sheet t x done at k
  pub number : n ≡ length done
  pub holds : P done

module _ {sheet : List ℕ} {t : Table} {x : Said} {P : List SheetStatement → Type 0} where
  pub turn-start : (W : ℕ) {e : ℕ} → e ≡ end_of 10 sheet 0 + 1 → outcome W sheet ≡ accepted x → x.names ≡ names_of sheet t → P [] → Turn sheet t x P e 2 0
  turn-start W {e = e} ends o n h = record { done = []; passing = passing-start W sheet t x e ends o n; number = refl; holds = h }

  module _ {at k n : ℕ} (w : Turn sheet t x P at k n) where
    -- where the second reading stands
    pub turn-paused : Paused sheet t at k
    turn-paused = record { all = x; before = w.done; passing = w.passing }

    -- no statement comes next: P holds of all
    pub turn_end : Next sheet t at k None → P x.statements
    turn_end z = subst P (sym (z.statement x w.done w.passing)) w.holds

    module _ {q : StatementLine} (z : Next sheet t at k (Some q)) where
      turn-both : Passing sheet t x (w.done ++ found_statement q ∷ []) q.past (q.line + 1) × Within (counts_of x.names) (cell_of q.statement)
      turn-both = z.statement x w.done w.passing

      pub turn-passing : Passing sheet t x (w.done ++ found_statement q ∷ []) q.past (q.line + 1)
      turn-passing = turn-both.0

      pub turn-within : Within (counts_of x.names) (cell_of q.statement)
      turn-within = turn-both.1

      -- where the second reading stands then
      pub turn-past : Paused sheet t q.past (q.line + 1)
      turn-past = record { all = x; before = w.done ++ found_statement q ∷ []; passing = turn-passing }

      -- the next turn
      pub turn-next : {Q : List SheetStatement → Type 0} → Q (w.done ++ found_statement q ∷ []) → Turn sheet t x Q q.past (q.line + 1) (n + 1)
      turn-next h = record { done = w.done ++ found_statement q ∷ []; passing = turn-passing; number = omega (arith, w.number, length-append w.done (found_statement q ∷ [])); holds = h }
