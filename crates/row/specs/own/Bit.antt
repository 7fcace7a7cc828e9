-- What the functions on a word's bits do.
use Rattle.std.specs.Prelude.{Bool, List, ℕ, ◌-◌, ◌/◌, ◌%◌, ◌^◌, ◌<◌, min, ◌≤◌, eqb, get_or}
use Rattle.row.specs.Bit.{Has}

-- whether bit k of the word w is set, as a test
abbrev pub hasb : ℕ → ℕ → Bool
hasb w k = eqb (w / 2 ^ k % 2) 1

-- the word of 64 bits whose bits below n are set, and no other
unfoldable pub low_bits : ℕ → ℕ
low_bits n = 2 ^ min n 64 - 1

-- r is the lowest set bit of the word w from k on; it is past the word's 64 bits if there is none
pub record LowestBit (w k r : ℕ) : Type 0 where
  pub from : k ≤ r
  pub found : r < 64 → Has w r
  pub least : (j : ℕ) → k ≤ j → j < r → ¬ (Has w j)

-- every set bit of s is set in t
abbrev pub Part : List ℕ → List ℕ → Type 0
Part s t = (i k : ℕ) → Has (get_or s i 0) k → Has (get_or t i 0) k
