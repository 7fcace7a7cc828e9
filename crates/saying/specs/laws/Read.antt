-- Laws of reading expressions from fields that are those that are due. Assumes nothing.
use Rattle.std.specs.Prelude.{Option, Some, None}
use Rattle.std.specs.Prelude.{◌≡◌, true, false, List, [], ◌∷◌, ◌++◌, ℕ, zero, suc, ◌+◌, ◌≤◌, ◌<◌, length, drop}
use Rattle.std.proofs.Common.{refl, sym, true≢false, arith}
use Rattle.field.specs.declared.Due.{Due}
use Rattle.field.specs.declared.Due.TheVariants as due
use Rattle.field.specs.declared.Operator.{Operator}
use Rattle.field.specs.declared.Operator.TheVariants as operator
use Rattle.field.specs.Due.{fits, is_expr, wanted}
use Rattle.field.specs.Names.{Names, nodes_in, nodes_of}
use Rattle.saying.specs.Read.{Read, by_word, read, size}
use Rattle.field.specs.Words.{Field, operator_of}

-- the fields fs begin with an expression of the size k, after which the gs are left and the ds are due
pub record Begun (ds : List Due) (fs gs : List Field) (k : ℕ) : Type 0 where
  pub fit : fits ds gs ≡ true
  pub nodes : nodes_in (due.Expr ∷ ds) fs ≡ k + nodes_in ds gs
  pub less : length gs < length fs

-- one field in a place for a name or a count
pub plain-field : (d : Due) (ds : List Due) (fs : List Field) → is_expr d ≡ false → fits (d ∷ ds) fs ≡ true
    → (fits ds (drop 1 fs) ≡ true) × (nodes_in (d ∷ ds) fs ≡ nodes_in ds (drop 1 fs)) × (length fs ≡ suc (length (drop 1 fs)))
unfolding fits nodes_in
plain-field d ds [] e h = absurd (true≢false (sym h))
plain-field d ds (f ∷ fs) e h = (rw (e, fits) at h, rw (e, nodes_in) (omega arith), refl)

pub drop-two : (fs : List Field) → drop 2 fs ≡ drop 1 (drop 1 fs)
drop-two [] = refl
drop-two (f ∷ []) = refl
drop-two (f ∷ g ∷ fs) = refl

-- reading with `more`, at most m fields
unfoldable pub Reader : (List Field → Read) → ℕ → Type 0
Reader more m = (ds : List Due) (fs : List Field) → length fs ≤ m → fits (due.Expr ∷ ds) fs ≡ true → Begun ds fs (more fs).rest (size (more fs).expr)

module _ (n : Names) (more : List Field → Read) (m : ℕ) (r : Reader more m) where
  -- an expression after a count and a role
  counted : (d : Due) (ds : List Due) (fs : List Field) → is_expr d ≡ false → length fs ≤ m → fits (d ∷ due.RoleUse ∷ due.Expr ∷ ds) fs ≡ true
      → (fits ds (more (drop 2 fs)).rest ≡ true) × (nodes_in (d ∷ due.RoleUse ∷ due.Expr ∷ ds) fs ≡ size (more (drop 2 fs)).expr + nodes_in ds (more (drop 2 fs)).rest)
      × (length (more (drop 2 fs)).rest ≤ length fs)
  unfolding Reader
  counted d ds fs e l h =
      let p = plain-field d (due.RoleUse ∷ due.Expr ∷ ds) fs e h in
      let q = plain-field due.RoleUse (due.Expr ∷ ds) (drop 1 fs) refl p.0 in
      let a = r ds (drop 1 (drop 1 fs)) (omega (arith, p.2, q.2)) q.0 in
      rw (drop-two fs) (a.fit, omega (arith, p.1, q.1, a.nodes), omega (arith, p.2, q.2, a.less))

  -- what is read after a word that wants what it wants
  word : (o : Option Operator) (f : Field) (ds : List Due) (fs : List Field) → length fs ≤ m → fits (wanted o ++ ds) fs ≡ true
      → (fits ds (by_word n more o f fs).rest ≡ true) × (nodes_of o + nodes_in (wanted o ++ ds) fs ≡ size (by_word n more o f fs).expr + nodes_in ds (by_word n more o f fs).rest)
      × (length (by_word n more o f fs).rest ≤ length fs)
  unfolding Reader size
  word (Some operator.And) f ds fs l h =
      let a = r (due.Expr ∷ ds) fs l h in
      let b = r ds (more fs).rest (omega (arith, a.less)) a.fit in
      (b.fit, omega (arith, a.nodes, b.nodes), omega (arith, a.less, b.less))
  word (Some operator.Or) f ds fs l h =
      let a = r (due.Expr ∷ ds) fs l h in
      let b = r ds (more fs).rest (omega (arith, a.less)) a.fit in
      (b.fit, omega (arith, a.nodes, b.nodes), omega (arith, a.less, b.less))
  word (Some operator.Not) f ds fs l h = let a = r ds fs l h in (a.fit, omega (arith, a.nodes), omega (arith, a.less))
  word (Some operator.Some) f ds fs l h =
      let p = plain-field due.RoleUse (due.Expr ∷ ds) fs refl h in
      let a = r ds (drop 1 fs) (omega (arith, p.2)) p.0 in
      (a.fit, omega (arith, p.1, a.nodes), omega (arith, p.2, a.less))
  word (Some operator.All) f ds fs l h =
      let p = plain-field due.RoleUse (due.Expr ∷ ds) fs refl h in
      let a = r ds (drop 1 fs) (omega (arith, p.2)) p.0 in
      (a.fit, omega (arith, p.1, a.nodes), omega (arith, p.2, a.less))
  word (Some operator.AtLeast) f ds fs l h = let a = counted due.AtLeast ds fs refl l h in (a.0, omega (arith, a.1), a.2)
  word (Some operator.AtMost) f ds fs l h = let a = counted due.AtMost ds fs refl l h in (a.0, omega (arith, a.1), a.2)
  word (Some operator.SelfOf) f ds fs l h = let p = plain-field due.RoleUse ds fs refl h in (p.0, omega (arith, p.1), omega (arith, p.2))
  word (Some operator.One) f ds fs l h = let p = plain-field due.Item ds fs refl h in (p.0, omega (arith, p.1), omega (arith, p.2))
  word (Some operator.Top) f ds fs l h = (h, omega arith, omega arith)
  word (Some operator.Bot) f ds fs l h = (h, omega arith, omega arith)
  word None f ds fs l h = (h, omega arith, omega arith)

-- an expression is read to its end, and is counted by its fields
pub read_right : (n : Names) (left : ℕ) → Reader (read left n) left
unfolding Reader read fits nodes_in
read_right n zero ds [] l h = absurd (true≢false (sym h))
read_right n zero ds (f ∷ fs) l h = absurd (omega arith)
read_right n (suc left) ds [] l h = absurd (true≢false (sym h))
read_right n (suc left) ds (f ∷ fs) l h =
    let w = word n (read left n) left (read_right n left) (operator_of f) f ds fs (omega arith) h in
    record { fit = w.0; nodes = w.1; less = omega (arith, w.2) }
