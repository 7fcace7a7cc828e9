-- Rows of items that paths reach.
use Rattle.std.specs.Prelude.{◌≡◌, List, ℕ, ◌*◌, ◌<◌}
use Rattle.row.specs.own.Row.{RowHas}
use Rattle.row.specs.own.Pick.{room}
use Rattle.store.specs.declared.Counts.{Counts}
use Rattle.store.specs.Cell.{Cell}
use Rattle.rule.specs.declared.RoleUse.{RoleUse}
use Rattle.rule.specs.Breaks.{Path}

-- an item with the property P links to y by the relation L
pub record Reached (L : ℕ → ℕ → Type 0) (P : ℕ → Type 0) (y : ℕ) : Type 0 where
  pub from : ℕ
  pub has : P from
  pub link : L from y

-- a path of the roles leads from an item with the property P to y
pub record Ends (C : Cell → Type 0) (n : Counts) (rs : List RoleUse) (P : ℕ → Type 0) (y : ℕ) : Type 0 where
  pub from : ℕ
  pub has : P from
  pub path : Path C n rs from y

-- r marks what the items below z with the property P link to by L
pub record Gathered (n : ℕ) (L : ℕ → ℕ → Type 0) (P : ℕ → Type 0) (z : ℕ) (r : List ℕ) : Type 0 where
  pub sound : (y : ℕ) → RowHas r y → (y < n) × Reached L P y
  pub whole : (x y : ℕ) → x < z → P x → L x y → RowHas r y

-- r has x, if there is room for it, and no other number
pub record ItemRow (x : ℕ) (r : List ℕ) : Type 0 where
  pub has : x < 64 * room → RowHas r x
  pub only : (y : ℕ) → RowHas r y → y ≡ x
