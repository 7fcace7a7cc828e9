-- Parts of a list of bytes by their places, as the functions have them.
use Rattle.std.specs.Prelude.{cond, List, [], ◌∷◌, ℕ, zero, suc, ◌+◌, leb, eqb, length, take, drop}
use Rattle.text.specs.Split.{split}

-- so many bytes from a place on, or as many as there are
abbrev pub part_of : List ℕ → ℕ → ℕ → List ℕ
part_of s at count = take count (drop at s)

-- how many bytes stand before the first t: all of them where there is none
unfoldable pub upto : ℕ → List ℕ → ℕ
upto t [] = zero
upto t (b ∷ s) = cond (eqb b t) zero (suc (upto t s))

-- where the part that starts at a place ends
unfoldable pub end_of : ℕ → List ℕ → ℕ → ℕ
end_of t s at = at + upto t (drop at s)

-- the parts from a place on; a place past the end has none
unfoldable pub parts_from : ℕ → List ℕ → ℕ → List (List ℕ)
parts_from t s at = cond (leb at (length s)) (split t (drop at s)) []
