-- What the tests of rows ask.
use Rattle.std.specs.Prelude.{List, ℕ, ◌+◌, ◌*◌, ◌/◌, ◌%◌, ◌<◌, get_or}
use Rattle.row.specs.Bit.{Has}

-- every bit of the row at a is one of the row at b
abbrev pub RowPart : List ℕ → ℕ → ℕ → ℕ → Type 0
RowPart s a b width = (h : ℕ) → h < width → (k : ℕ) → Has (get_or s (a + h) 0) k → Has (get_or s (b + h) 0) k

-- each row y of the part at `from` for which the row at a has bit y is a part of the row at c
abbrev pub Includes : List ℕ → ℕ → ℕ → ℕ → ℕ → ℕ → Type 0
Includes s a from c width count = (y : ℕ) → y < count → Has (get_or s (a + y / 64) 0) (y % 64) → RowPart s (from + y * width) c width

-- each row of the part at `at` includes the rows of the part at `from` that its own bits name
abbrev pub RowsInclude : List ℕ → ℕ → ℕ → ℕ → ℕ → ℕ → Type 0
RowsInclude s at rows from width count = (x : ℕ) → x < rows → Includes s (at + x * width) from (at + x * width) width count

-- in each of the blocks, `size` words apart, every bit of the row at a is one of the row at b
abbrev pub BlocksPart : List ℕ → ℕ → ℕ → ℕ → ℕ → ℕ → Type 0
BlocksPart s a b width size blocks = (r : ℕ) → r < blocks → RowPart s (a + r * size) (b + r * size) width

-- the row at c is, in each of the blocks, a part of each row y of the part at `from` for which the row at a has bit y
abbrev pub Spreads : List ℕ → ℕ → ℕ → ℕ → ℕ → ℕ → ℕ → ℕ → Type 0
Spreads s a c from width count size blocks = (y : ℕ) → y < count → Has (get_or s (a + y / 64) 0) (y % 64) → BlocksPart s c (from + y * width) width size blocks

-- where row x of the part at `at` has bit y, row x of the part at `from` is, in each of the blocks, a part of row y of it
abbrev pub AllSpread : List ℕ → ℕ → ℕ → ℕ → ℕ → ℕ → ℕ → ℕ → Type 0
AllSpread s at step from width count size blocks = (x : ℕ) → x < count → Spreads s (at + x * step) (from + x * width) from width count size blocks

-- each row x of the part at `from` has bit x
abbrev pub Reflexive : List ℕ → ℕ → ℕ → ℕ → Type 0
Reflexive s from width count = (x : ℕ) → x < count → Has (get_or s (from + x * width + x / 64) 0) (x % 64)

-- each word y of the part at `from` for which z has bit y is a part of z
abbrev pub WordIncludes : List ℕ → ℕ → ℕ → ℕ → Type 0
WordIncludes s z from count = (y : ℕ) → y < count → Has z y → (k : ℕ) → Has (get_or s (from + y) 0) k → Has z k
