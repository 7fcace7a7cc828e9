-- Laws of the two sizes of a store. Assumes nothing.
use Rattle.std.specs.Prelude.{◌≡◌, ◌⊎◌, Bool, cond, List, ℕ, ◌≤◌, length}
use Rattle.std.proofs.Common.{sym, ap, ◌∙◌, inl, inr, arith, eq-eqb, ne_eqb}
use Rattle.store.specs.Layout.{large, size, small, width_of}
use Rattle.store.specs.own.Laid.{widest}
use Rattle.store.specs.laws.Width.{width-large, width-of-small, width_two}
use Rattle.convert.specs.Promise.{other_width}

-- the other size of the larger store is the smaller
pub other-large : (W : ℕ) → W ≡ large → other_width W ≡ small
unfolding other_width
other-large W e = ap (λ (b : Bool). cond b small large) (eq-eqb W large e)

-- and that of any other the larger
pub other-small : (W : ℕ) → ¬ (W ≡ large) → other_width W ≡ large
unfolding other_width
other-small W n = ap (λ (b : Bool). cond b small large) (ne_eqb W large n)

-- the other size is one of the two
other-two : (W : ℕ) → (W ≡ large) ⊎ (W ≡ small) → (other_width W ≡ large) ⊎ (other_width W ≡ small)
other-two W (inl e) = inr (other-large W e)
other-two W (inr e) = inl (other-small W (λ l. omega arith))

-- words as long as a store of one of the two sizes have its width
pub width_is : (W : ℕ) (s : List ℕ) → (W ≡ large) ⊎ (W ≡ small) → length s ≡ size W → width_of s ≡ W
width_is W s (inl e) l = width-large s (l ∙ ap size e) ∙ sym e
width_is W s (inr e) l = width-of-small s (l ∙ ap size e) ∙ sym e

-- words of the other length have the other width
pub other_width-long : (s t : List ℕ) → length t ≡ size (other_width (width_of s)) → width_of t ≡ other_width (width_of s)
other_width-long s t l = width_is _ t (other-two _ (width_two s)) l

-- the other of the other is the first
pub other-other : (s : List ℕ) → other_width (other_width (width_of s)) ≡ width_of s
other-other s = go (width_two s)
  where
    go : (width_of s ≡ large) ⊎ (width_of s ≡ small) → other_width (other_width (width_of s)) ≡ width_of s
    go (inl e) = other-small _ (λ l. omega (arith, other-large _ e)) ∙ sym e
    go (inr e) = other-large _ (other-small _ (λ l. omega arith)) ∙ sym e

-- no row is wider than the widest
pub other-wide : (s : List ℕ) → other_width (width_of s) ≤ widest
other-wide s = go (other-two _ (width_two s))
  where
    go : (other_width (width_of s) ≡ large) ⊎ (other_width (width_of s) ≡ small) → other_width (width_of s) ≤ widest
    go (inl e) = omega (arith, e)
    go (inr e) = omega (arith, e)
