-- Laws of the tests of rows. Assumes nothing.
use Rattle.std.specs.Prelude.{◌≡◌, ◌⊎◌, Bool, true, List, ℕ, ◌+◌, ◌*◌, ◌/◌, ◌%◌, ◌^◌, ◌≤◌, ◌<◌, get_or}
use Rattle.std.proofs.Common.{sym, ◌∙◌, subst, inl, inr, arith}
use Rattle.std.proofs.Math.Decide.{ℕ_discrete}
use Rattle.std.specs.Int.Bits.{bit_or}
use Rattle.std.proofs.lemmas.Nat.{or_lt}
use Rattle.logic.specs.own.Decides.{Decides}
use Rattle.row.specs.Bit.{Has}
use Rattle.row.specs.own.Bit.{hasb}
use Rattle.row.specs.laws.Bit.{has-or, or_left, or_right, word-ext, hasb-has, has-hasb, moved}
use Rattle.inspect.specs.own.Below.{RowBelow}
use Rattle.inspect.specs.own.Test.{BlocksPart, Includes, RowPart, Spreads}

-- where | adds nothing to y, every bit of x is one of y
pub part-word : (x y : ℕ) → bit_or x y ≡ y → (k : ℕ) → Has x k → Has y k
part-word x y e k h = moved e (or_left x y k h)

-- and the other way round, for words of 64 bits
pub word-part : (x y : ℕ) → x < 2 ^ 64 → y < 2 ^ 64 → ((k : ℕ) → Has x k → Has y k) → bit_or x y ≡ y
word-part x y hx hy f = word-ext 64 (bit_or x y) y (or_lt 64 x y hx hy) hy (λ k l h. put k (has-or x y k h)) (λ k l h. or_right x y k h)
  where
    put : (k : ℕ) → Has x k ⊎ Has y k → Has y k
    put k (inl h) = f k h
    put k (inr h) = h

-- below h the row is a part
pub RowPart-more : (s : List ℕ) (a b h : ℕ) → RowPart s a b h → bit_or (get_or s (a + h) 0) (get_or s (b + h) 0) ≡ get_or s (b + h) 0 → RowPart s a b (h + 1)
RowPart-more s a b h f e j l k x = go (ℕ_discrete j h)
  where
    go : Dec (j ≡ h) → Has (get_or s (b + j) 0) k
    go (yes p) =
        subst (λ (i : ℕ). Has (get_or s (b + i) 0) k) (sym p)
        (part-word _ (get_or s (b + h) 0) e k (subst (λ (i : ℕ). Has (get_or s (a + i) 0) k) p x))
    go (no p) = f j (omega arith) k x

-- one row more
pub includes-more : (s : List ℕ) (a from c width y : ℕ) → Includes s a from c width y
    → (Has (get_or s (a + y / 64) 0) (y % 64) → RowPart s (from + y * width) c width) → Includes s a from c width (y + 1)
includes-more s a from c width y f g j l x = go (ℕ_discrete j y)
  where
    go : Dec (j ≡ y) → RowPart s (from + j * width) c width
    go (yes p) =
        subst (λ (i : ℕ). RowPart s (from + i * width) c width) (sym p) (g (subst (λ (i : ℕ). Has (get_or s (a + i / 64) 0) (i % 64)) p x))
    go (no p) = f j (omega arith) x

-- row y, as the loop tests it
pub includes-step : (s : List ℕ) (a from c width y : ℕ) {b : ℕ} {on r : Bool} → b ≡ from + y * width → on ≡ hasb (get_or s (a + y / 64) 0) (y % 64)
    → Decides r (on ≡ true → RowPart s b c width) → Decides r (Has (get_or s (a + y / 64) 0) (y % 64) → RowPart s (from + y * width) c width)
includes-step s a from c width y e o d = record {
  holds = λ t x. subst (λ (i : ℕ). RowPart s i c width) e (d.holds t (o ∙ has-hasb x));
  fails = λ t f. d.fails t (λ x. subst (λ (i : ℕ). RowPart s i c width) (sym e) (f (hasb-has _ _ (sym o ∙ x))));
}

-- a test that is asked only where a bit is set
pub decides-has : {w k : ℕ} {on r : Bool} {P : Type 0} → on ≡ hasb w k → Decides r (on ≡ true → P) → Decides r (Has w k → P)
decides-has o d = record { holds = λ t x. d.holds t (o ∙ has-hasb x); fails = λ t f. d.fails t (λ x. f (hasb-has _ _ (sym o ∙ x))) }

-- row y of those that the row at c spreads to
pub spreads-step : (s : List ℕ) (c from width y size blocks : ℕ) {b w k : ℕ} {on r : Bool} → b ≡ from + y * width → on ≡ hasb w k
    → Decides r (on ≡ true → BlocksPart s c b width size blocks) → Decides r (Has w k → BlocksPart s c (from + y * width) width size blocks)
spreads-step s c from width y size blocks {w = w} {k = k} {r = r} e o d =
    subst (λ (i : ℕ). Decides r (Has w k → BlocksPart s c i width size blocks)) e (decides-has o d)

-- the row at an equal place
pub includes-at : (s : List ℕ) (from width count : ℕ) {a b : ℕ} {r : Bool} → a ≡ b → Decides r (Includes s a from a width count) → Decides r (Includes s b from b width count)
includes-at s from width count {r = r} e d = subst (λ (i : ℕ). Decides r (Includes s i from i width count)) e d

-- the two rows at equal places
pub spreads-at : (s : List ℕ) (from width count size blocks : ℕ) {a b c d : ℕ} {r : Bool} → a ≡ b → c ≡ d
    → Decides r (Spreads s a c from width count size blocks) → Decides r (Spreads s b d from width count size blocks)
spreads-at s from width count size blocks {a = a} {d = d} {r = r} e f x =
    subst (λ (i : ℕ). Decides r (Spreads s i d from width count size blocks)) e (subst (λ (i : ℕ). Decides r (Spreads s a i from width count size blocks)) f x)

-- a row with no bit includes all that its bits name
pub includes_none : (s : List ℕ) (a from width count : ℕ) → count ≤ 64 * width → RowBelow s a width 0 → Includes s a from a width count
includes_none s a from width count l f y ly x = absurd (omega (arith, f (y / 64) (omega arith) (y % 64) x))
