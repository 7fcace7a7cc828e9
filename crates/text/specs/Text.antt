-- Text: decimal numbers, and what a writer leaves in the room that was lent to it.
use Rattle.std.specs.Prelude.{◌≡◌, cond, List, [], ◌∷◌, ◌++◌, ℕ, zero, suc, ◌+◌, ◌/◌, ◌%◌, ltb, length}
use Rattle.std.proofs.lemmas.List.Edits.{sets}

-- the decimal digits of n, of which there are at most as many as the first number
unfoldable pub digits : ℕ → ℕ → List ℕ
digits zero n = []
digits (suc most) n = cond (ltb n 10) [] (digits most (n / 10)) ++ ((48 + n % 10) ∷ [])

-- a number as text: decimal, without leading zeros
unfoldable pub decimal : ℕ → List ℕ
decimal n = digits (suc n) n

-- the text was written at a place of the room, as far as the room reaches, and r is the place past it
pub record Wrote (room : List ℕ) (at : ℕ) (text exit : List ℕ) (r : ℕ) : Type 0 where
  pub here : exit ≡ sets room at text
  pub next : r ≡ at + length text
