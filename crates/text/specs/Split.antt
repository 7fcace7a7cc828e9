-- Lines of a sheet and fields of a line: one cut at a byte.
use Rattle.std.specs.Prelude.{cond, List, [], ◌∷◌, ℕ, eqb}
use Prim.Native.String as string
use Rattle.text.specs.Bytes.{bytes}

-- b before the first of some parts
abbrev pub onto : ℕ → List (List ℕ) → List (List ℕ)
onto b [] = (b ∷ []) ∷ []
onto b (p ∷ ps) = (b ∷ p) ∷ ps

-- the parts that the bytes t make: one more than there are such bytes
unfoldable pub split : ℕ → List ℕ → List (List ℕ)
split t [] = [] ∷ []
split t (b ∷ s) = cond (eqb b t) ([] ∷ split t s) (onto b (split t s))

-- the words of a text, parted by one space
abbrev pub words : string.String → List (List ℕ)
words s = split 32 (bytes s)

-- the fields of a line, parted by one tab
abbrev pub fields : List ℕ → List (List ℕ)
fields line = split 9 line

-- the lines of a sheet. What follows the last line feed stands at the end as one line more, be it empty: an empty line says nothing
abbrev pub lines : List ℕ → List (List ℕ)
lines sheet = split 10 sheet
