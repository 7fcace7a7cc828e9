-- The lines whose names are all declared, of which there are as many as there must be, are the statements with nothing wrong. Assumes nothing.
use Rattle.std.specs.Prelude.{◌≡◌, Bool, true, false, not, List, [], ◌∷◌, ℕ, ◌+◌, ◌≤◌, ◌<◌, drop, length, Option, Some, None}
use Rattle.std.proofs.Common.{refl, sym, ap, ◌∙◌, subst, true≢false, arith, length-drop, le-ltb, lt-ltb, ltb-false}
use Rattle.text.specs.Bytes.{every, place}
use Rattle.text.specs.Name.{is_name, line_byte}
use Rattle.text.specs.Split.{fields}
use Rattle.store.specs.declared.Counts.{Counts}
use Rattle.store.specs.declared.Statement.{Statement}
use Rattle.store.specs.Cell.{Within, cell_of}
use Rattle.field.specs.declared.Due.{Due}
use Rattle.field.specs.declared.Due.TheVariants as due
use Rattle.field.specs.declared.Form.{Form}
use Rattle.field.specs.declared.Form.TheVariants as form
use Rattle.field.specs.declared.StatementWord.{StatementWord}
use Rattle.field.specs.declared.StatementWord.TheVariants as statement
use Rattle.field.specs.Due.{fits, is_expr, none, statement_lineup}
use Rattle.field.specs.Names.{Names, counts_of, field_fault, field_faults, name_fault, nodes_in, plain}
use Rattle.field.specs.Words.{at, Field, body_of, form_of}
use Rattle.line.specs.declared.Marks.{Marks}
use Rattle.line.specs.Fault.{fields_fault, form_fault, line_fault, line_limit}
use Rattle.stated.specs.Stated.{statement_of}
use Rattle.field.specs.own.Table.{Listed, Proper, Table, Tidy, concept_name, names_of}
use Rattle.field.specs.own.Line.{Looked}
use Rattle.quick.specs.own.Quick.{Finds, Named, Plainly, Stated}
use Rattle.field.specs.laws.Names.{lower-none}
use Rattle.field.specs.laws.Right.{concept-name-good, listed-good}
use Rattle.line.proofs.laws.Accepted.{Accepted, line-accepted}
use Rattle.line.specs.laws.Fault.{form-fields, known-body, line-bytes, line-form, line-long}
use Rattle.stated.specs.laws.Stated.{statement-within}
use Rattle.field.specs.laws.Table.{counts_of-names_of}
use Rattle.line.specs.laws.Some.{statement-some}

some-long : (l : List ℕ) → none l ≡ false → length l ≡ 0 → ⊥
some-long [] e h = true≢false e
some-long (b ∷ l) e h = absurd (omega arith)

-- ---- fields with nothing wrong

-- the fields are those that are due, with nothing wrong and no expression among them
record Clear (n : Names) (ds : List Due) (fs : List Field) : Type 0 where
  pub fit : fits ds fs ≡ true
  pub faults : field_faults n ds fs ≡ 0
  pub nodes : nodes_in ds fs ≡ 0

module _ (n : Names) where
  clear_none : Clear n [] []
  unfolding fits field_faults nodes_in
  clear_none = record { fit = refl; faults = refl; nodes = refl }

  clear-more : (d : Due) (ds : List Due) (f : Field) (fs : List Field) → is_expr d ≡ false → field_fault n d f ≡ 0 → Clear n ds fs → Clear n (d ∷ ds) (f ∷ fs)
  unfolding fits field_faults nodes_in
  clear-more d ds f fs e z c = record { fit = rw (e, fits) c.fit; faults = rw (e, z) (sym (lower-none 0 _ refl) ∙ c.faults); nodes = rw (e, nodes_in, c.nodes) (omega arith) }

  clear-two : (a b : Due) (fs : List Field) → is_expr a ≡ false → is_expr b ≡ false → length fs ≡ 2 → field_fault n a (at 0 fs) ≡ 0 → field_fault n b (at 1 fs) ≡ 0 → Clear n (a ∷ b ∷ []) fs
  clear-two a b [] e g h x y = absurd (omega arith)
  clear-two a b (f ∷ []) e g h x y = absurd (omega arith)
  clear-two a b (f ∷ k ∷ []) e g h x y = clear-more a (b ∷ []) f (k ∷ []) e x (clear-more b [] k [] g y clear_none)
  clear-two a b (f ∷ k ∷ l ∷ fs) e g h x y = absurd (omega arith)

  clear-three : (a b d : Due) (fs : List Field) → is_expr a ≡ false → is_expr b ≡ false → is_expr d ≡ false → length fs ≡ 3
      → field_fault n a (at 0 fs) ≡ 0 → field_fault n b (at 1 fs) ≡ 0 → field_fault n d (at 2 fs) ≡ 0 → Clear n (a ∷ b ∷ d ∷ []) fs
  clear-three a b d [] e g i h x y z = absurd (omega arith)
  clear-three a b d (f ∷ fs) e g i h x y z = clear-more a (b ∷ d ∷ []) f fs e x (clear-two b d fs g i (omega arith) y z)

  -- ---- names that are found are declared names

  name-right : (names : List Field) (f : Field) → Listed is_name names → place f names < length names → name_fault names f ≡ 0
  unfolding name_fault
  name-right names f l h = rw (listed-good is_name names f l h, lt-ltb _ _ h)

  module _ (p : Proper n) (f : Field) where
    item-right : place f n.items < length n.items → field_fault n due.Item f ≡ 0
    unfolding field_fault
    item-right h = name-right n.items f p.items h

    role-right : place f n.roles < length n.roles → field_fault n due.Role f ≡ 0
    unfolding field_fault
    role-right h = name-right n.roles f p.roles h

    role-use-right : place (plain f) n.roles < length n.roles → field_fault n due.RoleUse f ≡ 0
    unfolding field_fault
    role-use-right h = name-right n.roles (plain f) p.roles h

    concept-right : place f n.concepts < length n.concepts → field_fault n due.Concept f ≡ 0
    unfolding field_fault name_fault
    concept-right h =
        let g = concept-name-good f (listed-good concept_name n.concepts f p.concepts h) in
        rw (g.1, g.0, lt-ltb _ _ h)

  -- ---- the fields of a statement

  statement-clear : Proper n → (w : StatementWord) (fs : List Field) → length fs ≡ length (statement_lineup w) → Within (counts_of n) (cell_of (statement_of n w fs)) → Clear n (statement_lineup w) fs
  statement-clear p statement.In fs e h = clear-two due.Item due.Concept fs refl refl e (item-right p (at 0 fs) h.0) (concept-right p (at 1 fs) h.1)
  statement-clear p statement.Rel fs e h =
      clear-three due.Role due.Item due.Item fs refl refl refl e (role-right p (at 0 fs) h.0) (item-right p (at 1 fs) h.1) (item-right p (at 2 fs) h.2)
  statement-clear p statement.Same fs e h = clear-two due.Item due.Item fs refl refl e (item-right p (at 0 fs) h.0) (item-right p (at 1 fs) h.1)
  statement-clear p statement.Under fs e h = clear-two due.Concept due.Concept fs refl refl e (concept-right p (at 0 fs) h.0) (concept-right p (at 1 fs) h.1)
  statement-clear p statement.RoleUnder fs e h = clear-two due.RoleUse due.RoleUse fs refl refl e (role-use-right p (at 0 fs) h.0) (role-use-right p (at 1 fs) h.1)

  fields-clear : (m : Marks) (w : StatementWord) (fs : List Field) → Clear n (statement_lineup w) fs → fields_fault n m (form.Statement w) fs ≡ 0
  unfolding fields_fault
  fields-clear m w fs c = rw (c.fit, c.faults, c.nodes) (sym (lower-none 0 0 refl))

  -- ---- the line of a statement

  module _ (m : Marks) (line : List ℕ) (s : Statement) (p : Proper n) (d : Stated n m line s) where
    body_is : drop 1 (fields line) ≡ body_of (fields line)
    body_is = rw d.form at (known-body (fields line) (rw d.form))

    fields-right : fields_fault n m (form_of (fields line)) (body_of (fields line)) ≡ 0
    fields-right =
        rw (d.form, ← body_is)
        (fields-clear m d.word (drop 1 (fields line)) (statement-clear p d.word (drop 1 (fields line)) d.named.count (rw d.named.is at d.named.within)))

    form-right : form_fault n m (form_of (fields line)) (body_of (fields line)) ≡ 0
    form-right = sym (form-fields n m (form_of (fields line)) (body_of (fields line)) (rw d.form) (rw (d.form, d.early) (le-ltb 0 0 (omega arith)))) ∙ fields-right

    pub plainly : length line ≤ line_limit → not (every line_byte line) ≡ false → Plainly n m line s
    plainly g e =
        let some = statement-some line d.word d.form in
        record { some = some; right = sym (line-form n m line (some-long line some) g e) ∙ form-right; stated = d }

-- ---- what is found

-- what says the same of every statement is found alike
pub finds-same : {P Q : Statement → Type 0} (r : Option Statement) → ((z : Statement) → P z → Q z) → ((z : Statement) → Q z → P z) → Finds P r → Finds Q r
finds-same (Some s) f g q = f s q
finds-same None f g q = λ z d. q z (g z d)

-- where none is as P says, none is to be found
pub finds-none : {P : Statement → Type 0} {r : Option Statement} → r ≡ None → ((z : Statement) → ¬ P z) → Finds P r
finds-none {P} u h = subst (λ (o : Option Statement). Finds P o) (sym u) h

-- the form is that of a statement
abbrev pub states : Form → Bool
states form.Concept = false
states form.Role = false
states form.Item = false
states (form.Statement w) = true
states (form.Rule w) = false
states form.Bare = false
states form.Unknown = false

-- a line of another form says no statement
pub other-form : (n : Names) (m : Marks) (line : List ℕ) {f : Form} {r : Option Statement} → r ≡ None → f ≡ form_of (fields line) → states f ≡ false → Finds (Stated n m line) r
other-form n m line u is h = finds-none u (λ z d. true≢false (sym (ap states (is ∙ d.form)) ∙ h))

module _ {n : Names} {m : Marks} {line : List ℕ} where
  -- an empty line is none
  pub plain-some : {z : Statement} → length line ≡ 0 → ¬ Plainly n m line z
  plain-some h p = some-long line p.some h

  -- nor is one that is too long, or has a byte that may not stand in it
  pub plain-long : {z : Statement} → line_limit < length line → ¬ Plainly n m line z
  plain-long g p = omega (arith, line-long n m line (some-long line p.some) g, p.right)

  pub plain-bytes : {z : Statement} → length line ≤ line_limit → not (every line_byte line) ≡ true → ¬ Plainly n m line z
  plain-bytes g e p = omega (arith, line-bytes n m line (some-long line p.some) g e, p.right)

  -- a line says the statement of its word
  pub stated-word : {z : Statement} {w : StatementWord} → form_of (fields line) ≡ form.Statement w → Stated n m line z → Named n w (drop 1 (fields line)) z
  stated-word {z} {w} e d =
      let f : form.Statement d.word ≡ form.Statement w = sym d.form ∙ e in
      let v : d.word ≡ w = cc in
      subst (λ (u : StatementWord). Named n u (drop 1 (fields line)) z) v d.named

-- ---- every statement with nothing wrong is found

fit_none : (fs : List Field) → fits [] fs ≡ true → length fs ≡ 0
unfolding fits
fit_none [] e = refl
fit_none (f ∷ fs) e = absurd (true≢false (sym e))

fit-more : (d : Due) (ds : List Due) (k : ℕ) (fs : List Field) → is_expr d ≡ false → ((gs : List Field) → fits ds gs ≡ true → length gs ≡ k) → fits (d ∷ ds) fs ≡ true → length fs ≡ k + 1
unfolding fits
fit-more d ds k [] e h q = absurd (true≢false (sym q))
fit-more d ds k (f ∷ fs) e h q = omega (arith, h fs (rw (e, fits) at q))

fit-two : (a b : Due) (fs : List Field) → is_expr a ≡ false → is_expr b ≡ false → fits (a ∷ b ∷ []) fs ≡ true → length fs ≡ 2
fit-two a b fs e g = fit-more a (b ∷ []) 1 fs e (λ gs. fit-more b [] 0 gs g fit_none)

-- the fields of a statement are as many as its word wants
statement-count : (w : StatementWord) (fs : List Field) → fits (statement_lineup w) fs ≡ true → length fs ≡ length (statement_lineup w)
statement-count statement.In fs = fit-two due.Item due.Concept fs refl refl
statement-count statement.Rel fs = fit-more due.Role (due.Item ∷ due.Item ∷ []) 2 fs refl (λ gs. fit-two due.Item due.Item gs refl refl)
statement-count statement.Same fs = fit-two due.Item due.Item fs refl refl
statement-count statement.Under fs = fit-two due.Concept due.Concept fs refl refl
statement-count statement.RoleUnder fs = fit-two due.RoleUse due.RoleUse fs refl refl

-- the line of a statement without a fault is a statement with nothing wrong
pub right-plainly : (n : Names) (m : Marks) (line : List ℕ) (w : StatementWord) → line_fault n m line ≡ 0 → form_of (fields line) ≡ form.Statement w → Plainly n m line (statement_of n w (drop 1 (fields line)))
right-plainly n m line w z e =
    let some = statement-some line w e in
    let a : Accepted n m (form.Statement w) (body_of (fields line)) = rw e at (line-accepted n m line some z).1 in
    let body : drop 1 (fields line) ≡ body_of (fields line) = rw e at (known-body (fields line) (rw e)) in
    let early : m.rules ≡ 0 = omega (arith, ltb-false 0 m.rules a.started) in
    let named : Named n w (drop 1 (fields line)) (statement_of n w (drop 1 (fields line))) = rw body (record { count = statement-count w (body_of (fields line)) a.right.fit; is = refl; within = statement-within n w (body_of (fields line)) a.right }) in
    record { some = some; right = z; stated = record { word = w; form = e; early = early; named = named } }

-- ---- the names of a line's fields

count-some : (w : StatementWord) → 1 ≤ length (statement_lineup w)
count-some statement.In = omega arith
count-some statement.Rel = omega arith
count-some statement.Same = omega arith
count-some statement.Under = omega arith
count-some statement.RoleUnder = omega arith

-- another number of fields
pub other-count : {n : Names} {line ends : List ℕ} (w : StatementWord) → Looked line ends → (length ends ≡ length (statement_lineup w) + 1 → ⊥) → (z : Statement) → ¬ Named n w (drop 1 (fields line)) z
other-count {line = line} w v h z d = h (omega (arith, length-drop 1 (fields line), v.count, d.count, count-some w))

-- the statement of a line's fields, with names that are all declared
pub named-within : {sheet : List ℕ} {t : Table} {fs : List Field} {y z : Statement} → Tidy sheet t → (w : StatementWord) → y ≡ statement_of (names_of sheet t) w fs → Named (names_of sheet t) w fs z → Within t.counts (cell_of y)
named-within {sheet} {t} {y = y} q w is d =
    subst (λ (n : Counts). Within n (cell_of y)) (counts_of-names_of sheet t q) (subst (λ (u : Statement). Within (counts_of (names_of sheet t)) (cell_of u)) (d.is ∙ sym is) d.within)

-- as many fields as there must be, with names that are all declared
pub all_named : {sheet : List ℕ} {t : Table} {line ends : List ℕ} {z : Statement} → Tidy sheet t → (w : StatementWord) → Looked line ends → length ends ≡ length (statement_lineup w) + 1
    → z ≡ statement_of (names_of sheet t) w (drop 1 (fields line)) → Within t.counts (cell_of z) → Named (names_of sheet t) w (drop 1 (fields line)) z
all_named {sheet} {t} {line} {z = z} y w v long is h =
    record { count = omega (arith, length-drop 1 (fields line), v.count, long); is = is; within = subst (λ (n : Counts). Within n (cell_of z)) (sym (counts_of-names_of sheet t y)) h }
