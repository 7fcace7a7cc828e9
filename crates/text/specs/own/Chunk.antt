-- Several bytes as one number.
use Rattle.std.specs.Prelude.{◌≡◌, List, [], ◌∷◌, ℕ, ◌+◌, ◌*◌, ◌<◌, get_or}

-- the first byte lowest
unfoldable pub low : List ℕ → ℕ
low [] = 0
low (b ∷ s) = b + 256 * low s

-- all elements are bytes
abbrev pub Bytes : List ℕ → Type 0
Bytes s = (i : ℕ) → get_or s i 0 < 256

-- w and the text from a place on agree below i
abbrev pub Agree : List ℕ → ℕ → List ℕ → ℕ → Type 0
Agree text start w i = (j : ℕ) → j < i → get_or w j 0 ≡ get_or text (start + j) 0
