-- Lists of bytes.
use Rattle.std.specs.Prelude.{Bool, true, false, cond, List, [], ◌∷◌, ℕ, suc, ◌+◌, leb, eqb}
use Prim.Native.Char.{code}
use Prim.Native.String as string

-- the bytes of a text
abbrev pub bytes : string.String → List ℕ
bytes string.[] = []
bytes (string.◌∷◌ c s) = code c ∷ bytes s

-- a is at most b, and b at most c
abbrev pub between : ℕ → ℕ → ℕ → Bool
between a b c = cond (leb a b) (leb b c) false

-- A-Z as a-z
unfoldable pub lower : ℕ → ℕ
lower b = cond (between 65 b 90) (b + 32) b

-- every byte passes the test
unfoldable pub every : (ℕ → Bool) → List ℕ → Bool
every p [] = true
every p (b ∷ s) = cond (p b) (every p s) false

-- the bytes are the same
unfoldable pub same : List ℕ → List ℕ → Bool
same [] [] = true
same [] (b ∷ t) = false
same (a ∷ s) [] = false
same (a ∷ s) (b ∷ t) = cond (eqb a b) (same s t) false

-- the place of a word in a list of words, from 0; the length of the list where it is none of them
unfoldable pub place : List ℕ → List (List ℕ) → ℕ
place w [] = 0
place w (x ∷ xs) = cond (same w x) 0 (suc (place w xs))
