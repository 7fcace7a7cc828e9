-- Laws of the width of a lent store, and of the numbers lent for names with it. Assumes nothing.
use Rattle.std.specs.Prelude.{◌≡◌, ◌⊎◌, List, ℕ, ◌≤◌, length}
use Rattle.std.proofs.Common.{inl, inr, arith}
use Rattle.store.specs.Layout.{large, size, small, width_of}
use Rattle.store.specs.laws.Width.{width_small, width_two, width-wide}
use Rattle.field.specs.own.Table.{number_count}

-- no row is narrower than those of the smaller store
pub width_some : (s : List ℕ) → small ≤ width_of s
width_some s = go (width_two s)
  where
    go : (width_of s ≡ large) ⊎ (width_of s ≡ small) → small ≤ width_of s
    go (inl e) = omega (arith, e)
    go (inr e) = omega (arith, e)

-- numbers for the names of a sheet that is read with the larger store suffice for any
pub numbers-large : (s : List ℕ) → number_count (width_of s) ≤ number_count large
numbers-large s = omega (arith, width-wide s)

-- those for the smaller one suffice for words that are not as long as the larger
pub numbers-small : (s : List ℕ) → ¬ (length s ≡ size large) → number_count (width_of s) ≤ number_count small
numbers-small s n = omega (arith, width_small s n)
