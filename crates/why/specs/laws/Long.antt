-- The line of a statement has at least four bytes: two of its word, and two tabs. Assumes nothing.
use Rattle.std.specs.Prelude.{◌≡◌, refl, Bool, true, false, cond, List, [], ◌∷◌, ℕ, suc, ◌+◌, ◌≤◌, eqb, length, drop}
use Rattle.std.proofs.Common.{sym, ap, ◌∙◌, true≢false, arith}
use Rattle.text.specs.Bytes.{bytes, place, same}
use Rattle.text.specs.Split.{fields, onto, split}
use Rattle.text.specs.laws.Bytes.{same_true}
use Rattle.field.specs.declared.Due.{Due}
use Rattle.field.specs.declared.Form.{Form}
use Rattle.field.specs.declared.Form.TheVariants as form
use Rattle.field.specs.declared.StatementWord.{StatementWord}
use Rattle.field.specs.declared.StatementWord.TheVariants as statement
use Rattle.field.specs.Due.{fits, lineup_of}
use Rattle.field.specs.Names.{Names}
use Rattle.field.specs.Words.{Field, body_of, form_of, is_rule, line_form, rule_form}
use Rattle.field.specs.laws.Right.{Right, right-first}

-- ---- the parts of a line make up its length

-- the bytes of some parts, with one more after each
abbrev pub total : List (List ℕ) → ℕ
total [] = 0
total (p ∷ ps) = suc (length p) + total ps

-- there are no more parts than that
total-most : (ps : List (List ℕ)) → length ps ≤ total ps
total-most [] = omega arith
total-most (p ∷ ps) = let h = total-most ps in omega arith

-- there is at least one part
split-some : (t : ℕ) (s : List ℕ) → (p : List ℕ) × (ps : List (List ℕ)) × (split t s ≡ p ∷ ps)
unfolding split
split-some t [] = ([], [], refl)
split-some t (b ∷ s) = go (eqb b t) (split-some t s)
  where
    go : (e : Bool) → (p : List ℕ) × (ps : List (List ℕ)) × (split t s ≡ p ∷ ps) → (p : List ℕ) × (ps : List (List ℕ)) × (cond e ([] ∷ split t s) (onto b (split t s)) ≡ p ∷ ps)
    go true z = ([], split t s, refl)
    go false z = (b ∷ z.0, z.1, ap (onto b) z.2)

pub split-total : (t : ℕ) (s : List ℕ) → total (split t s) ≡ suc (length s)
unfolding split
split-total t [] = refl
split-total t (b ∷ s) = go (eqb b t) (split-some t s) (split-total t s)
  where
    go : (e : Bool) → (p : List ℕ) × (ps : List (List ℕ)) × (split t s ≡ p ∷ ps) → total (split t s) ≡ suc (length s) → total (cond e ([] ∷ split t s) (onto b (split t s))) ≡ suc (suc (length s))
    go true z h = omega (arith, h)
    go false z h = omega (arith, ap (λ (ps : List (List ℕ)). total (onto b ps)) z.2, ap total z.2, h)

-- ---- the word of a statement

both_false : (b : Bool) → cond b false false ≡ false
both_false true = refl
both_false false = refl

-- a field of no byte or of one is no word
short_none : line_form [] ≡ form.Unknown
unfolding line_form split same place
short_none = refl

short-one : (b : ℕ) → line_form (b ∷ []) ≡ form.Unknown
unfolding line_form split same place
short-one b = simp both_false

word-long : (f : Field) (w : StatementWord) → line_form f ≡ form.Statement w → 2 ≤ length f
word-long [] w e = let z : ◌≡◌ {A = Form} form.Unknown (form.Statement w) = sym short_none ∙ e in let q : ◌≡◌ {A = ℕ} 0 1 = cc in omega arith
word-long (a ∷ []) w e = let z : ◌≡◌ {A = Form} form.Unknown (form.Statement w) = sym (short-one a) ∙ e in let q : ◌≡◌ {A = ℕ} 0 1 = cc in omega arith
word-long (a ∷ b ∷ f) w e = omega arith

-- the word `rule`
rule-long : (f : Field) → is_rule f ≡ true → 2 ≤ length f
rule-long f e = omega (arith, ap length (same_true f (bytes "rule") e))

-- the first field has two bytes, and the others are no fewer than those of the body
first-long : (fs : List Field) (w : StatementWord) → form_of fs ≡ form.Statement w → 3 + length (body_of fs) ≤ total fs
first-long [] w e = let z : ◌≡◌ {A = Form} form.Unknown (form.Statement w) = e in let q : ◌≡◌ {A = ℕ} 0 1 = cc in omega arith
first-long (f ∷ []) w e = go (is_rule f) refl e
  where
    go : (b : Bool) → is_rule f ≡ b → cond b form.Bare (line_form f) ≡ form.Statement w → 3 + length {A = Field} (cond b (drop 1 []) []) ≤ suc (length f) + 0
    go true r h = omega (arith, rule-long f r)
    go false r h = omega (arith, word-long f w h)
first-long (f ∷ g ∷ fs) w e = go (is_rule f) refl e
  where
    go : (b : Bool) → is_rule f ≡ b → cond b (rule_form g) (line_form f) ≡ form.Statement w → 3 + length (cond b (drop 1 (g ∷ fs)) (g ∷ fs)) ≤ suc (length f) + total (g ∷ fs)
    go true r h = omega (arith, rule-long f r, total-most (g ∷ fs))
    go false r h = omega (arith, word-long f w h, total-most (g ∷ fs))

-- ---- the fields of a statement

right-some : (n : Names) (d : Due) (ds : List Due) (fs : List Field) → Right n (d ∷ ds) fs → 1 ≤ length fs
unfolding fits
right-some n d ds [] r = absurd (true≢false (sym r.fit))
right-some n d ds (f ∷ fs) r = omega arith

dropped : (fs : List Field) → 1 ≤ length (drop 1 fs) → 2 ≤ length fs
dropped [] h = omega (arith, h)
dropped (f ∷ fs) h = omega arith

two_fields : (n : Names) (w : StatementWord) (fs : List Field) → Right n (lineup_of (form.Statement w) (length fs)) fs → 2 ≤ length fs
two_fields n statement.In fs r = dropped fs (right-some n _ _ (drop 1 fs) (right-first n _ _ fs refl r).1)
two_fields n statement.Rel fs r = dropped fs (right-some n _ _ (drop 1 fs) (right-first n _ _ fs refl r).1)
two_fields n statement.Same fs r = dropped fs (right-some n _ _ (drop 1 fs) (right-first n _ _ fs refl r).1)
two_fields n statement.Under fs r = dropped fs (right-some n _ _ (drop 1 fs) (right-first n _ _ fs refl r).1)
two_fields n statement.RoleUnder fs r = dropped fs (right-some n _ _ (drop 1 fs) (right-first n _ _ fs refl r).1)

pub line-long : (n : Names) (l : List ℕ) (w : StatementWord) → form_of (fields l) ≡ form.Statement w → Right n (lineup_of (form.Statement w) (length (body_of (fields l)))) (body_of (fields l)) → 4 ≤ length l
line-long n l w e r = omega (arith, first-long (fields l) w e, two_fields n w (body_of (fields l)) r, split-total 9 l)
