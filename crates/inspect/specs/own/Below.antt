-- What the tests for stray bits ask: that no bit lies outside what is declared.
use Rattle.std.specs.Prelude.{List, ℕ, ◌+◌, ◌*◌, ◌<◌, get_or}
use Rattle.row.specs.Bit.{Has}

-- every bit of the word is below n
abbrev pub WordBelow : ℕ → ℕ → Type 0
WordBelow w n = (k : ℕ) → Has w k → k < n

-- every bit of the row at `at` is below n
abbrev pub RowBelow : List ℕ → ℕ → ℕ → ℕ → Type 0
RowBelow s at width n = (h : ℕ) → h < width → (k : ℕ) → Has (get_or s (at + h) 0) k → h * 64 + k < n

-- of the `count` rows at `from` only the first `rows` have bits, and only bits below `bits`
abbrev pub RowsBelow : List ℕ → ℕ → ℕ → ℕ → ℕ → ℕ → Type 0
RowsBelow s from count width rows bits = (x : ℕ) → x < count → (h : ℕ) → h < width → (k : ℕ) → Has (get_or s (from + x * width + h) 0) k → (x < rows) × (h * 64 + k < bits)

-- of the blocks of 64 * width rows at `from` only the first `used` have bits, only in their first n rows, and only bits below n
abbrev pub BlocksBelow : List ℕ → ℕ → ℕ → ℕ → ℕ → ℕ → Type 0
BlocksBelow s from blocks width used n =
    (r : ℕ) → r < blocks → (x : ℕ) → x < 64 * width → (h : ℕ) → h < width → (k : ℕ) → Has (get_or s (from + r * (64 * width * width) + x * width + h) 0) k
    → (r < used) × (x < n) × (h * 64 + k < n)
