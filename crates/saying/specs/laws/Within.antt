-- The numbers and counts of an expression that is read from fields with nothing wrong. Assumes nothing.
use Rattle.std.specs.Prelude.{Option, Some, None}
use Rattle.std.specs.Prelude.{◌≡◌, true, false, not, List, [], ◌∷◌, ◌++◌, ℕ, zero, suc, ◌-◌, ◌≤◌, ◌<◌, eqb, drop, length}
use Rattle.std.proofs.Common.{refl, sym, true≢false, length-drop, arith}
use Rattle.std.proofs.lemmas.Bool.{not-false}
use Rattle.text.specs.Bytes.{place}
use Rattle.text.specs.laws.Bytes.{between-bounds}
use Rattle.text.specs.laws.Choice.{cond-true}
use Rattle.store.specs.declared.Counts.{Counts}
use Rattle.rule.specs.Expr.{Expr}
use Rattle.rule.specs.Expr.Expr.{both, many, name, neg, one, own, top}
use Rattle.rule.specs.Form.{count_limit}
use Rattle.field.specs.declared.Due.{Due}
use Rattle.field.specs.declared.Due.TheVariants as due
use Rattle.field.specs.declared.Operator.{Operator}
use Rattle.field.specs.declared.Operator.TheVariants as operator
use Rattle.field.specs.Due.{fits, is_expr, wanted}
use Rattle.field.specs.Names.{Names, count_of, counts_of, field_fault, field_faults, is_count, name_fault}
use Rattle.saying.specs.Read.{Read, by_word, read}
use Rattle.field.specs.Words.{at, Field, operator_of}
use Rattle.field.specs.laws.Words.{not-reserved}
use Rattle.field.specs.laws.Right.{Right, fault-none, item-declared, lower-zeros, name-declared, right-first, role-use-declared}
use Rattle.saying.specs.laws.Read.{Reader, drop-two, read_right}
use Rattle.store.specs.Cell.{DeclaredItem}

-- the numbers of an expression are below their counts, and its counts are 1 to 8
unfoldable pub Sound : Counts → Expr → Type 0
Sound n (name c) = c.0 < n.concepts
Sound n top = Unit {0}
Sound n (neg c) = Sound n c
Sound n (both c d) = Sound n c × Sound n d
Sound n (many k u c) = (1 ≤ k) × (k ≤ count_limit) × (u.role.0 < n.roles) × Sound n c
Sound n (own u) = u.role.0 < n.roles
Sound n (one a) = DeclaredItem n a.0

module _ (n : Names) (f : Field) where
  -- a concept in an expression
  concept-inside : None ≡ operator_of f → field_fault n due.Expr f ≡ 0 → place f n.concepts < length n.concepts
  unfolding field_fault
  concept-inside e h = let q : name_fault n.concepts f ≡ 0 = rw (not-reserved f e) at h in name-declared n n.concepts f q

  -- a count
  count-bounds : (a c : ℕ) → is_count a c f ≡ true → (a ≤ count_of f) × (count_of f ≤ c)
  count-bounds a c h = between-bounds a (count_of f) c (cond-true (eqb (length f) 1) _ h).1

  least-bounds : field_fault n due.AtLeast f ≡ 0 → (1 ≤ count_of f) × (count_of f ≤ count_limit)
  unfolding field_fault
  least-bounds h = count-bounds 1 count_limit (not-false _ (fault-none (not (is_count 1 count_limit f)) 19 0 h).0)

  most-bounds : field_fault n due.AtMost f ≡ 0 → (0 ≤ count_of f) × (count_of f ≤ count_limit - 1)
  unfolding field_fault
  most-bounds h = count-bounds 0 (count_limit - 1) (not-false _ (fault-none (not (is_count 0 (count_limit - 1) f)) 19 0 h).0)

-- ---- reading

at_next : (i : ℕ) (fs : List Field) → at i (drop 1 fs) ≡ at (suc i) fs
at_next i [] = refl
at_next i (f ∷ fs) = refl

drop-short : (k : ℕ) (fs : List Field) → length (drop k fs) ≤ length fs
drop-short k fs = omega (arith, length-drop k fs)

-- reading with `more`, at most m fields, gives sound expressions
unfoldable pub SoundReader : Names → (List Field → Read) → ℕ → Type 0
SoundReader n more m = (ds : List Due) (fs : List Field) → length fs ≤ m → Right n (due.Expr ∷ ds) fs → Sound (counts_of n) (more fs).expr × Right n ds (more fs).rest

module _ (n : Names) (more : List Field → Read) (m : ℕ) (r : Reader more m) (s : SoundReader n more m) where
  -- an expression after a count and a role
  after-count : (d : Due) (ds : List Due) (fs : List Field) → is_expr d ≡ false → length fs ≤ m → Right n (d ∷ due.RoleUse ∷ due.Expr ∷ ds) fs
      → (field_fault n d (at 0 fs) ≡ 0) × (field_fault n due.RoleUse (at 1 fs) ≡ 0) × Sound (counts_of n) (more (drop 2 fs)).expr × Right n ds (more (drop 2 fs)).rest
  unfolding SoundReader
  after-count d ds fs e l h =
      let p = right-first n d (due.RoleUse ∷ due.Expr ∷ ds) fs e h in
      let q = right-first n due.RoleUse (due.Expr ∷ ds) (drop 1 fs) refl p.1 in
      let a = s ds (drop 1 (drop 1 fs)) (omega (arith, drop-short 1 (drop 1 fs), drop-short 1 fs)) q.1 in
      (p.0, rw (at_next 0 fs) at q.0, rw (drop-two fs) a.0, rw (drop-two fs) a.1)

  sound-word : (o : Option Operator) (f : Field) (ds : List Due) (fs : List Field) → o ≡ operator_of f → field_fault n due.Expr f ≡ 0 → length fs ≤ m → Right n (wanted o ++ ds) fs
      → Sound (counts_of n) (by_word n more o f fs).expr × Right n ds (by_word n more o f fs).rest
  unfolding SoundReader Reader Sound
  sound-word (Some operator.And) f ds fs q z l h =
      let a = s (due.Expr ∷ ds) fs l h in
      let b = s ds (more fs).rest (omega (arith, (r (due.Expr ∷ ds) fs l h.fit).less)) a.1 in
      ((a.0, b.0), b.1)
  sound-word (Some operator.Or) f ds fs q z l h =
      let a = s (due.Expr ∷ ds) fs l h in
      let b = s ds (more fs).rest (omega (arith, (r (due.Expr ∷ ds) fs l h.fit).less)) a.1 in
      ((a.0, b.0), b.1)
  sound-word (Some operator.Not) f ds fs q z l h = s ds fs l h
  sound-word (Some operator.Some) f ds fs q z l h =
      let p = right-first n due.RoleUse (due.Expr ∷ ds) fs refl h in
      let a = s ds (drop 1 fs) (omega (arith, drop-short 1 fs)) p.1 in
      ((omega arith, omega arith, role-use-declared n (at 0 fs) p.0, a.0), a.1)
  sound-word (Some operator.All) f ds fs q z l h =
      let p = right-first n due.RoleUse (due.Expr ∷ ds) fs refl h in
      let a = s ds (drop 1 fs) (omega (arith, drop-short 1 fs)) p.1 in
      ((omega arith, omega arith, role-use-declared n (at 0 fs) p.0, a.0), a.1)
  sound-word (Some operator.AtLeast) f ds fs q z l h =
      let a = after-count due.AtLeast ds fs refl l h in
      let b = least-bounds n (at 0 fs) a.0 in
      ((b.0, b.1, role-use-declared n (at 1 fs) a.1, a.2), a.3)
  sound-word (Some operator.AtMost) f ds fs q z l h =
      let a = after-count due.AtMost ds fs refl l h in
      let b = most-bounds n (at 0 fs) a.0 in
      ((omega arith, omega (arith, b.1), role-use-declared n (at 1 fs) a.1, a.2), a.3)
  sound-word (Some operator.SelfOf) f ds fs q z l h = let p = right-first n due.RoleUse ds fs refl h in (role-use-declared n (at 0 fs) p.0, p.1)
  sound-word (Some operator.One) f ds fs q z l h = let p = right-first n due.Item ds fs refl h in (item-declared n (at 0 fs) p.0, p.1)
  sound-word (Some operator.Top) f ds fs q z l h = (tt, h)
  sound-word (Some operator.Bot) f ds fs q z l h = (tt, h)
  sound-word None f ds fs q z l h = (concept-inside n f q z, h)

-- an expression that is read from fields with nothing wrong is sound
pub read-sound : (n : Names) (left : ℕ) → SoundReader n (read left n) left
unfolding SoundReader read fits field_faults
read-sound n zero ds [] l h = absurd (true≢false (sym h.fit))
read-sound n zero ds (f ∷ fs) l h = absurd (omega arith)
read-sound n (suc left) ds [] l h = absurd (true≢false (sym h.fit))
read-sound n (suc left) ds (f ∷ fs) l h =
    let z = lower-zeros (field_fault n due.Expr f) (field_faults n (wanted (operator_of f) ++ ds) fs) h.faults in
    sound-word n (read left n) left (read_right n left) (read-sound n left) (operator_of f) f ds fs refl z.0 (omega arith) (record { fit = h.fit; faults = z.1 })
