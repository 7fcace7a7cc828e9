-- A word as a row of bits, bit 0 the lowest.
use Rattle.std.specs.Prelude.{◌≡◌, List, [], ◌∷◌, ℕ, ◌+◌, ◌/◌, ◌%◌, ◌^◌, ◌<◌, get_or}
use Rattle.std.specs.Int.Count.{ones}

-- bit k of the word n is set
pub record Has (n k : ℕ) : Type 0 where
  pub bit : n / 2 ^ k % 2 ≡ 1

-- how many bits of the words are set
abbrev pub total : List ℕ → ℕ
total [] = 0
total (w ∷ ws) = ones w + total ws

-- every word has w bits
abbrev pub Words : ℕ → List ℕ → Type 0
Words w s = (i : ℕ) → get_or s i 0 < 2 ^ w
