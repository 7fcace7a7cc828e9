-- Statement lines of an accepted sheet in another order, or said again, say the same. Assumes nothing.
use Rattle.std.specs.Prelude.{◌≡◌, refl, ◌⊎◌, Bool, cond, not, List, [], ◌∷◌, ◌++◌, ℕ, ◌+◌, ◌≤◌, length}
use Rattle.std.proofs.Common.{sym, ap, ap₂, ◌∙◌, subst, inl, inr, ⊎_elim, true≢false, arith, eq-eqb, le-leb}
use Rattle.std.proofs.Math.Bool.{true, false}
use Rattle.std.proofs.lemmas.List.{length-map}
use Rattle.logic.specs.Number.{One}
use Rattle.logic.specs.Number.One.{first, later}
use Rattle.logic.specs.laws.Number.{one_none}
use Rattle.text.specs.Split.{fields, lines}
use Rattle.store.specs.declared.Counts.{Counts}
use Rattle.store.specs.declared.Statement.{Statement}
use Rattle.store.specs.Cell.{Cell}
use Rattle.rule.specs.declared.Finding.{Finding}
use Rattle.rule.specs.declared.Rule.{Rule}
use Rattle.rule.specs.Findings.{Findings}
use Rattle.field.specs.declared.Form.{Form}
use Rattle.field.specs.declared.Form.TheVariants as form
use Rattle.field.specs.declared.StatementWord.{StatementWord}
use Rattle.field.specs.Names.{Names}
use Rattle.field.specs.Words.{at, Field, body_of, form_of}
use Rattle.line.specs.declared.Marks.{Marks}
use Rattle.field.specs.Due.{none}
use Rattle.line.specs.Fault.{fields_fault, form_fault, header_fault, line_fault, room_by, sheet_limit}
use Rattle.saying.specs.Read.{rule_of}
use Rattle.stated.specs.Stated.{statement_of}
use Rattle.sheet.specs.Demand3.{Rearranged, SameSaid, Stating, rules_of}
use Rattle.sheet.specs.Demand3.Stating.{empty, statement}
use Rattle.sheet.specs.Promise.{FindingsFrom}
use Rattle.sheet.specs.Promise.FindingsFrom.{none as no_findings, more as more_findings}
use Rattle.sheet.specs.Said.{Said, SheetRule, SheetStatement, line_said, marks_of, nothing, outcome, outcome_from, saying, statements_of}
use Rattle.sheet.specs.Said.Outcome.{accepted}
use Rattle.sheet.specs.laws.Pass.{accepted-lines, accepted-step, said_of}
use Rattle.sheet.specs.laws.Stands.{map_last, one-before, one_last, one_split}

-- ---- lines without a fault

-- what has been said after lines more, the first of which has the number k
lines_said : ℕ → Said → List (List ℕ) → Said
lines_said k s [] = s
lines_said k s (l ∷ ls) = lines_said (k + 1) (line_said k s l) ls

-- the number of the line after them
number_after : ℕ → List (List ℕ) → ℕ
number_after k [] = k
number_after k (l ∷ ls) = number_after (k + 1) ls

-- no line has a fault after what was said before it
data Faultless : ℕ → Said → List (List ℕ) → Type 0 where
  done : {k : ℕ} {s : Said} → Faultless k s []
  right : {k : ℕ} {s : Said} {l : List ℕ} {ls : List (List ℕ)} → line_fault s.names (marks_of s) l ≡ 0 → Faultless (k + 1) (line_said k s l) ls → Faultless k s (l ∷ ls)

-- such lines are accepted, and no others
faultless : (k : ℕ) (s x : Said) (ls : List (List ℕ)) → outcome_from k s ls ≡ accepted x → Faultless k s ls × (lines_said k s ls ≡ x)
unfolding outcome_from lines_said
faultless k s x [] e = (done, ap said_of e)
faultless k s x (l ∷ ls) e =
    let a = accepted-step k s x l ls e in
    let b = faultless (k + 1) (line_said k s l) x ls a.1 in
    (right a.0 b.0, b.1)

faultless-accepted : {k : ℕ} {s : Said} {ls : List (List ℕ)} → Faultless k s ls → outcome_from k s ls ≡ accepted (lines_said k s ls)
unfolding outcome_from lines_said
faultless-accepted done = refl
faultless-accepted (right z f) = rw (eq-eqb _ _ z) (faultless-accepted f)

-- the first of them, and the rest
faultless-split : {k : ℕ} {s : Said} (front : List (List ℕ)) {ls : List (List ℕ)} → Faultless k s (front ++ ls) → Faultless k s front × Faultless (number_after k front) (lines_said k s front) ls
unfolding lines_said number_after
faultless-split [] f = (done, f)
faultless-split {k = k} {s = s} (l ∷ front) {ls = ls} (right z f) = let g = faultless-split {k = k + 1} front f in (right z g.0, g.1)

faultless-join : {k : ℕ} {s : Said} {front ls : List (List ℕ)} → Faultless k s front → Faultless (number_after k front) (lines_said k s front) ls → Faultless k s (front ++ ls)
unfolding lines_said number_after
faultless-join done g = g
faultless-join (right z f) g = right z (faultless-join f g)

said-join : (k : ℕ) (s : Said) (front ls : List (List ℕ)) → lines_said k s (front ++ ls) ≡ lines_said (number_after k front) (lines_said k s front) ls
unfolding lines_said number_after
said-join k s [] ls = refl
said-join k s (l ∷ front) ls = said-join (k + 1) (line_said k s l) front ls

-- ---- after the same was said, a line is judged alike and says the same

none-same : (xs ys : List SheetStatement) → ((z : Statement) → One z (statements_of xs) → One z (statements_of ys)) → ((z : Statement) → One z (statements_of ys) → One z (statements_of xs)) → none xs ≡ none ys
none-same [] [] f g = refl
none-same [] (y ∷ ys) f g = absurd (one_none (g y.statement first))
none-same (x ∷ xs) [] f g = absurd (one_none (f x.statement first))
none-same (x ∷ xs) (y ∷ ys) f g = refl

pub same-marks : (x y : Said) → SameSaid x y → marks_of x ≡ marks_of y
same-marks x y s =
    ap₂ {C = Marks} (λ (b : Bool) (n : ℕ). record { stated = not b; rules = n }) (none-same x.statements y.statements s.statements.0 s.statements.1)
    (sym (length-map x.rules (λ (r : SheetRule). r.rule)) ∙ ap length s.rules ∙ length-map y.rules (λ (r : SheetRule). r.rule))

one_more : {A : Type 0} {xs ys : List A} {a b : A} → a ≡ b → ((z : A) → One z xs → One z ys) → (z : A) → One z (xs ++ a ∷ []) → One z (ys ++ b ∷ [])
one_more {A} {xs} {ys} {a} {b} e f z o = ⊎_elim (λ q. one-before b (f z q)) (λ q. subst (λ (c : A). One c (ys ++ b ∷ [])) (sym (q ∙ e)) (one_last b ys)) (one_split xs o)

module _ (k j : ℕ) (x y : Said) (s : SameSaid x y) where
  same-saying : (f : Form) (fs : List Field) → SameSaid (saying k x f fs) (saying j y f fs)
  same-saying form.Concept fs = record {
    names = ap (λ (n : Names). record { concepts = n.concepts ++ (at 0 fs ∷ []); roles = n.roles; items = n.items; room = n.room }) s.names;
    statements = s.statements;
    rules = s.rules;
  }
  same-saying form.Role fs = record {
    names = ap (λ (n : Names). record { concepts = n.concepts; roles = n.roles ++ (at 0 fs ∷ []); items = n.items; room = n.room }) s.names;
    statements = s.statements;
    rules = s.rules;
  }
  same-saying form.Item fs = record {
    names = ap (λ (n : Names). record { concepts = n.concepts; roles = n.roles; items = n.items ++ (at 0 fs ∷ []); room = n.room }) s.names;
    statements = s.statements;
    rules = s.rules;
  }
  same-saying (form.Statement w) fs = record {
    names = s.names;
    statements =
        let e = ap (λ (n : Names). statement_of n w fs) s.names in
        rw (map_last (λ (l : SheetStatement). l.statement) x.statements, map_last (λ (l : SheetStatement). l.statement) y.statements)
        (one_more e s.statements.0, one_more (sym e) s.statements.1);
    rules = s.rules;
  }
  same-saying (form.Rule w) fs = record {
    names = s.names;
    statements = s.statements;
    rules =
        map_last (λ (r : SheetRule). r.rule) x.rules _
        ∙ ap₂ (λ (rs : List Rule) (n : Names). rs ++ rule_of n w fs ∷ []) s.rules s.names
        ∙ sym (map_last (λ (r : SheetRule). r.rule) y.rules _);
  }
  same-saying form.Bare fs = s
  same-saying form.Unknown fs = s

  same_line : (l : List ℕ) → SameSaid (line_said k x l) (line_said j y l)
  unfolding line_said
  same_line l = go (none l)
    where
      go : (t : Bool) → SameSaid (cond t x (saying k x (form_of (fields l)) (body_of (fields l)))) (cond t y (saying j y (form_of (fields l)) (body_of (fields l))))
      go true = s
      go false = same-saying (form_of (fields l)) (body_of (fields l))

-- so are lines, one after the other
same_lines : {k : ℕ} (j : ℕ) {x : Said} (y : Said) {ls : List (List ℕ)} → SameSaid x y → Faultless k x ls → Faultless j y ls × SameSaid (lines_said k x ls) (lines_said j y ls)
unfolding lines_said
same_lines j y s done = (done, s)
same_lines {k} j {x} y s (right {l = l} z f) =
    let a = same_lines (j + 1) (line_said j y l) (same_line k j x y s l) f in
    (right (ap₂ (λ (n : Names) (m : Marks). line_fault n m l) (sym s.names) (sym (same-marks x y s)) ∙ z) a.0, a.1)

-- ---- statement lines

-- the line says the statement z
record Tells (n : Names) (z : Statement) (l : List ℕ) : Type 0 where
  word : StatementWord
  some : none l ≡ false
  is : form_of (fields l) ≡ form.Statement word
  says : z ≡ statement_of n word (body_of (fields l))

-- a line says one statement
tells-word : {n : Names} {z : Statement} {l : List ℕ} {w : StatementWord} → Tells n z l → form_of (fields l) ≡ form.Statement w → z ≡ statement_of n w (body_of (fields l))
tells-word {n} {l = l} {w} t e =
    let f : form.Statement t.word ≡ form.Statement w = sym t.is ∙ e in
    let v : t.word ≡ w = cc in
    t.says ∙ ap (λ (u : StatementWord). statement_of n u (body_of (fields l))) v

-- one of the lines does
record Told (n : Names) (ls : List (List ℕ)) (z : Statement) : Type 0 where
  line : List ℕ
  given : One line ls
  tells : Tells n z line

-- what has been said, t, after the statement lines ls: their statements more
record After (s : Said) (ls : List (List ℕ)) (t : Said) : Type 0 where
  names : t.names ≡ s.names
  rules : t.rules ≡ s.rules
  only : (z : Statement) → One z (statements_of t.statements) → One z (statements_of s.statements) ⊎ Told s.names ls z
  before : (z : Statement) → One z (statements_of s.statements) → One z (statements_of t.statements)
  told : (z : Statement) → Told s.names ls z → One z (statements_of t.statements)

after_line : (k : ℕ) (s : Said) (l : List ℕ) → Stating l → After s (l ∷ []) (line_said k s l)
unfolding line_said
after_line k s [] h = record { names = refl; rules = refl; only = λ z o. inl o; before = λ z o. o; told = λ z t. absurd (silent t.given t.tells.some) }
  where
    silent : {l : List ℕ} → One l ([] ∷ []) → none l ≡ false → ⊥
    silent first e = true≢false e
    silent (later o) e = one_none o
after_line k s (b ∷ l) (statement {w = w} e) =
    rw e
    (record {
      names = refl;
      rules = refl;
      only = λ z o. ⊎_elim (λ q. inl q) (λ q. inr (record { line = b ∷ l; given = first; tells = record { word = w; some = refl; is = e; says = q } })) (one_split (statements_of s.statements) (rw map_last at o));
      before = λ z o. rw map_last (one-before _ o);
      told = λ z t. rw map_last (said z t);
    })
  where
    said : (z : Statement) → Told s.names ((b ∷ l) ∷ []) z → One z (statements_of s.statements ++ statement_of s.names w (body_of (fields (b ∷ l))) ∷ [])
    said z t = go t.given t.tells
      where
        go : {m : List ℕ} → One m ((b ∷ l) ∷ []) → Tells s.names z m → One z (statements_of s.statements ++ statement_of s.names w (body_of (fields (b ∷ l))) ∷ [])
        go first q = rw (tells-word q e) (one_last (statement_of s.names w (body_of (fields (b ∷ l)))) (statements_of s.statements))
        go (later o) q = absurd (one_none o)

-- the first line does, or one of the rest
told-cases : {n : Names} {l : List ℕ} {ls : List (List ℕ)} {z : Statement} → Told n (l ∷ ls) z → Told n (l ∷ []) z ⊎ Told n ls z
told-cases {n} {l} {ls} {z} t = go t.given t.tells
  where
    go : {m : List ℕ} → One m (l ∷ ls) → Tells n z m → Told n (l ∷ []) z ⊎ Told n ls z
    go first q = inl (record { line = _; given = first; tells = q })
    go (later o) q = inr (record { line = _; given = o; tells = q })

-- one of more lines does
told-among : {n : Names} {ls ls' : List (List ℕ)} {z : Statement} → ((l : List ℕ) → One l ls → One l ls') → Told n ls z → Told n ls' z
told-among f t = record { line = t.line; given = f t.line t.given; tells = t.tells }

one-start : {A : Type 0} {x y : A} {xs : List A} → One x (y ∷ []) → One x (y ∷ xs)
one-start first = first
one-start (later o) = absurd (one_none o)

after-lines : (k : ℕ) (s : Said) (ls : List (List ℕ)) → ((l : List ℕ) → One l ls → Stating l) → After s ls (lines_said k s ls)
unfolding lines_said
after-lines k s [] h = record { names = refl; rules = refl; only = λ z o. inl o; before = λ z o. o; told = λ z t. absurd (one_none t.given) }
after-lines k s (l ∷ ls) h =
    let a = after_line k s l (h l first) in
    let b = after-lines (k + 1) (line_said k s l) ls (λ m o. h m (later o)) in
    record {
      names = b.names ∙ a.names;
      rules = b.rules ∙ a.rules;
      only = λ z o.
          ⊎_elim (λ q. ⊎_elim (λ p. inl p) (λ t. inr (told-among (λ m g. one-start g) t)) (a.only z q))
          (λ t. inr (told-among (λ m g. later g) (subst (λ (n : Names). Told n ls z) a.names t)))
          (b.only z o);
      before = λ z o. b.before z (a.before z o);
      told = λ z t. ⊎_elim (λ q. b.before z (a.told z q)) (λ q. b.told z (subst (λ (n : Names). Told n ls z) (sym a.names) q)) (told-cases t);
    }

-- the same statement lines, in another order or said again, say the same
after_same : {s t t' : Said} {ls ls' : List (List ℕ)} → ((l : List ℕ) → One l ls → One l ls') → ((l : List ℕ) → One l ls' → One l ls) → After s ls t → After s ls' t' → SameSaid t t'
after_same f g a b = record {
  names = a.names ∙ sym b.names;
  statements = (λ z o. ⊎_elim (λ p. b.before z p) (λ q. b.told z (told-among f q)) (a.only z o), λ z o. ⊎_elim (λ p. a.before z p) (λ q. a.told z (told-among g q)) (b.only z o));
  rules = ap rules_of (a.rules ∙ sym b.rules);
}

-- a statement line is judged by the names and by whether there is a rule
stating-fault : (n : Names) (m m' : Marks) {l : List ℕ} → Stating l → m.rules ≡ m'.rules → line_fault n m l ≡ line_fault n m' l
unfolding line_fault form_fault fields_fault
stating-fault n m m' empty h = refl
stating-fault n m m' (statement e) h = rw (e, h)

-- so after another one as before it
still-fault : (k : ℕ) (s : Said) {l m : List ℕ} → Stating l → Stating m → line_fault (line_said k s l).names (marks_of (line_said k s l)) m ≡ line_fault s.names (marks_of s) m
still-fault k s {l} {m} g h =
    let a = after_line k s l g in
    ap (λ (n : Names). line_fault n (marks_of (line_said k s l)) m) a.names ∙ stating-fault s.names (marks_of (line_said k s l)) (marks_of s) h (ap length a.rules)

each-faultless : {k : ℕ} {s : Said} {ls : List (List ℕ)} → ((l : List ℕ) → One l ls → Stating l) → Faultless k s ls → (l : List ℕ) → One l ls → line_fault s.names (marks_of s) l ≡ 0
each-faultless h done m o = absurd (one_none o)
each-faultless h (right z f) m first = z
each-faultless {k} {s} h (right {l = l} z f) m (later o) = sym (still-fault k s (h l first) (h m (later o))) ∙ each-faultless (λ q p. h q (later p)) f m o

faultless-each : (k : ℕ) (s : Said) (ls : List (List ℕ)) → ((l : List ℕ) → One l ls → Stating l) → ((l : List ℕ) → One l ls → line_fault s.names (marks_of s) l ≡ 0) → Faultless k s ls
faultless-each k s [] h z = done
faultless-each k s (l ∷ ls) h z =
    right (z l first) (faultless-each (k + 1) (line_said k s l) ls (λ m o. h m (later o)) (λ m o. still-fault k s (h l first) (h m (later o)) ∙ z m (later o)))

-- ---- whole sheets

accepted-by : (W : ℕ) (sheet l : List ℕ) (ls : List (List ℕ)) (y : Said) → length sheet ≤ sheet_limit → lines sheet ≡ l ∷ ls → header_fault W l ≡ 0 → outcome_from 2 (nothing (room_by l)) ls ≡ accepted y → outcome W sheet ≡ accepted y
unfolding outcome
accepted-by W sheet l ls y h are z e = rw (le-leb _ _ h, are, eq-eqb _ _ z) e

-- statement lines in another order, or said again, are accepted, and the same is said
pub rearranged : (W : ℕ) {sheet other : List ℕ} {x : Said} → Rearranged sheet other → length other ≤ sheet_limit → outcome W sheet ≡ accepted x → (y : Said) × (outcome W other ≡ accepted y) × SameSaid x y
rearranged W {sheet} {other} {x} r h e =
    let blank = nothing (room_by r.first) in
    let a = accepted-lines W sheet r.first (r.front ++ (r.middle ++ r.back)) x r.one e in
    let b = faultless 2 blank x (r.front ++ (r.middle ++ r.back)) a.2 in
    let f = faultless-split r.front b.0 in
    let k = number_after 2 r.front in
    let s = lines_said 2 blank r.front in
    let m = faultless-split r.middle f.1 in
    let stating : (l : List ℕ) → One l r.middle' → Stating l = λ l o. r.stating l (r.from l o) in
    let m' = faultless-each k s r.middle' stating (λ l o. each-faultless r.stating m.0 l (r.from l o)) in
    let same = after_same r.to r.from (after-lines k s r.middle r.stating) (after-lines k s r.middle' stating) in
    let back = same_lines (number_after k r.middle') (lines_said k s r.middle') same m.1 in
    let all = faultless-join f.0 (faultless-join m' back.0) in (
      lines_said 2 blank (r.front ++ (r.middle' ++ r.back)),
      accepted-by W other r.first (r.front ++ (r.middle' ++ r.back)) _ h r.another a.1 (faultless-accepted all),
      subst (λ (y : Said). SameSaid x y) (sym (said-join 2 blank r.front (r.middle' ++ r.back) ∙ said-join k s r.middle' r.back))
          (subst (λ (y : Said). SameSaid y (lines_said (number_after k r.middle') (lines_said k s r.middle') r.back))
          (sym (said-join 2 blank r.front (r.middle ++ r.back) ∙ said-join k s r.middle r.back) ∙ b.1) back.1),
    )

-- the findings of rules do not ask for their lines
pub findings-same : {C : Cell → Type 0} {n : Counts} {k : ℕ} (rs qs : List SheetRule) {fs : List Finding} → rules_of rs ≡ rules_of qs → FindingsFrom C n k rs fs → FindingsFrom C n k qs fs
findings-same [] [] e no_findings = no_findings
findings-same [] (q ∷ qs) e f = absurd (omega (arith, ap length e))
findings-same (r ∷ rs) [] e f = absurd (omega (arith, ap length e))
findings-same {C} {n} {k} (r ∷ rs) (q ∷ qs) e (more_findings {fs = fs} a b) =
    let h : r.rule ≡ q.rule = cc in
    let t : rules_of rs ≡ rules_of qs = cc in
    more_findings (subst (λ (u : Rule). Findings C n k u fs) h a) (findings-same rs qs t b)
