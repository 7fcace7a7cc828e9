-- Statements kept as numbers.
use Rattle.std.specs.Prelude.{Bool, true, false, cond, List, ℕ, ◌/◌, ◌%◌, ◌<◌, eqb}
use Rattle.logic.specs.Number.{One}
use Rattle.store.specs.declared.Counts.{Counts}
use Rattle.store.specs.declared.Statement.{Statement}
use Rattle.store.specs.Cell.{Cell, Within, cell_of}
use Rattle.store.specs.Cell.Cell.{Same, Under, RoleUnder, In, Link}

-- the cell of a kind, by its numbers: 0 same, 1 under, 2 and 3 role under and under the inverse, 4 in, any other a link
abbrev pub cell_by : ℕ → ℕ → ℕ → ℕ → Cell
cell_by k a b r = cond (eqb k 0) (Same a b) (cond (eqb k 1) (Under a b) (cond (eqb k 2) (RoleUnder a false b) (cond (eqb k 3) (RoleUnder a true b) (cond (eqb k 4) (In a b) (Link r a b)))))

-- the cell that a number states: its kind in the lowest three bits, then nine bits for each of its numbers
unfoldable pub cell_at : ℕ → Cell
cell_at k = cell_by (k % 8) (k / 8 % 512) (k / 4096 % 512) (k / 2097152)

-- the kind of a step from role to role, by its sign
abbrev pub role_kind : Bool → ℕ
role_kind false = 2
role_kind true = 3

-- the cells that the numbers state
pub data Coded (codes : List ℕ) : Cell → Type 0 where
  coded : {k : ℕ} → One k codes → Coded codes (cell_at k)

-- the numbers state cells within the counts
abbrev pub AllWithin : Counts → List ℕ → Type 0
AllWithin n codes = (k : ℕ) → One k codes → Within n (cell_at k)

-- the numbers of a cell are small enough to stand in one number
abbrev pub SmallCell : Cell → Type 0
SmallCell (Same a b) = (a < 512) × (b < 512)
SmallCell (Under a b) = (a < 512) × (b < 512)
SmallCell (RoleUnder r u s) = (r < 512) × (s < 512)
SmallCell (In a b) = (a < 512) × (b < 512)
SmallCell (Link r a b) = (r < 1024) × (a < 512) × (b < 512)

-- the same of a statement
abbrev pub Small : Statement → Type 0
Small s = SmallCell (cell_of s)
