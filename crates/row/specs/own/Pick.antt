-- A row that stands alone, as a set of numbers: x is in the row if its bit x is set. Such a row has 8 words.
use Rattle.std.specs.Prelude.{◌≡◌, ◌⊎◌, Bool, true, List, ℕ, ◌+◌, ◌*◌, ◌/◌, ◌%◌, ◌≤◌, ◌<◌, length, get_or}
use Rattle.std.specs.Int.Bits.{bit_or}
use Rattle.row.specs.Bit.{Has}
use Rattle.row.specs.own.Row.{RowHas}

-- how many words a row has that stands alone
abbrev pub room : ℕ
room = 8

-- no number is in the row
pub record Empty (r : List ℕ) : Type 0 where
  pub len : length r ≡ room
  pub none : (x : ℕ) → ¬ (RowHas r x)

-- t is s, and has x too if `on`
pub record Marked (on : Bool) (x : ℕ) (s t : List ℕ) : Type 0 where
  pub len : length t ≡ length s
  pub keeps : (y : ℕ) → RowHas s y → RowHas t y
  pub gets : on ≡ true → RowHas t x
  pub only : (y : ℕ) → RowHas t y → RowHas s y ⊎ ((on ≡ true) × (y ≡ x))

-- r has what both s and t have
pub record Met (s t r : List ℕ) : Type 0 where
  pub has : (x : ℕ) → x < 64 * room → RowHas s x → RowHas t x → RowHas r x
  pub left : (x : ℕ) → RowHas r x → RowHas s x
  pub right : (x : ℕ) → RowHas r x → RowHas t x

-- r has what s has and t has not
pub record Without (s t r : List ℕ) : Type 0 where
  pub has : (x : ℕ) → x < 64 * room → RowHas s x → ¬ (RowHas t x) → RowHas r x
  pub left : (x : ℕ) → RowHas r x → RowHas s x
  pub right : (x : ℕ) → RowHas r x → ¬ (RowHas t x)

-- x is the least number of the row; it is the number of the row's bits if the row has none
pub record Least (r : List ℕ) (x : ℕ) : Type 0 where
  pub within : x ≤ 64 * room
  pub found : x < 64 * room → RowHas r x
  pub least : (y : ℕ) → y < x → ¬ (RowHas r y)

-- y is the least number of the row from x on that is below `count`; it is `count` if there is none
pub record Next (r : List ℕ) (x count y : ℕ) : Type 0 where
  pub from : x ≤ y
  pub within : y ≤ count
  pub found : y < count → RowHas r y
  pub least : (z : ℕ) → x ≤ z → z < y → ¬ (RowHas r z)

-- t, a row that stands alone, has the bits of the row r and of the row of s at `from`, in its first words, and no other
pub record Together (s : List ℕ) (from width : ℕ) (r t : List ℕ) : Type 0 where
  pub len : length t ≡ room
  pub words : (h : ℕ) → h < width → get_or t h 0 ≡ bit_or (get_or r h 0) (get_or s (from + h) 0)
  pub rest : (h : ℕ) → width ≤ h → get_or t h 0 ≡ 0

-- the row of s at `from` and the row p have a number in common
pub record Shared (s : List ℕ) (from width : ℕ) (p : List ℕ) : Type 0 where
  pub number : ℕ
  pub inside : number < 64 * width
  pub here : Has (get_or s (from + number / 64) 0) (number % 64)
  pub there : RowHas p number

-- the row has all the numbers below n and no other
pub record AllBelow (n : ℕ) (r : List ℕ) : Type 0 where
  pub has : (x : ℕ) → x < n → RowHas r x
  pub only : (x : ℕ) → RowHas r x → x < n

-- the row r marks exactly the numbers below n that have the property P
pub record Marks (n : ℕ) (r : List ℕ) (P : ℕ → Type 0) : Type 0 where
  pub sound : (x : ℕ) → RowHas r x → (x < n) × P x
  pub whole : (x : ℕ) → x < n → P x → RowHas r x

-- the number x is in the row of s at `from` and in the row p
pub record InBoth (s : List ℕ) (from width : ℕ) (p : List ℕ) (x : ℕ) : Type 0 where
  pub inside : x < 64 * width
  pub here : Has (get_or s (from + x / 64) 0) (x % 64)
  pub there : RowHas p x
