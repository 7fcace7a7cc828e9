-- What is told of cells, row by row.
use Rattle.std.specs.Prelude.{◌≡◌, ◌⊎◌, List, ℕ, ◌/◌, ◌%◌}
use Rattle.row.specs.Bit.{Has}
use Rattle.row.specs.own.Row.{RowHas}
use Rattle.store.specs.declared.Counts.{Counts}
use Rattle.store.specs.Cell.{Cell, DeclaredItem}
use Rattle.store.specs.Cell.Cell.{Same, Link}

-- t has the declared items of the row p and the items that the role r links a to, over the cells C, and no other that p has not
pub record LinksJoined (C : Cell → Type 0) (n : Counts) (r a : ℕ) (p t : List ℕ) : Type 0 where
  pub sound : (y : ℕ) → RowHas t y → RowHas p y ⊎ C (Link r a y)
  pub keeps : (y : ℕ) → DeclaredItem n y → RowHas p y → RowHas t y
  pub links : (y : ℕ) → C (Link r a y) → RowHas t y

-- the role r links a to an item of the row p, over the cells C
pub record LinksMeet (C : Cell → Type 0) (r a : ℕ) (p : List ℕ) : Type 0 where
  pub item : ℕ
  pub link : C (Link r a item)
  pub has : RowHas p item

-- t is the row p without the items that are the same as b, over the cells C
pub record SameDropped (C : Cell → Type 0) (b : ℕ) (p t : List ℕ) : Type 0 where
  pub keeps : (x : ℕ) → RowHas p x → ¬ (C (Same b x)) → RowHas t x
  pub left : (x : ℕ) → RowHas t x → RowHas p x
  pub right : (x : ℕ) → RowHas t x → ¬ (C (Same b x))

-- w is word h of the row of the items that the role r links a to, over the cells C
pub record LinkWord (C : Cell → Type 0) (r a h w : ℕ) : Type 0 where
  pub sound : (x : ℕ) → x / 64 ≡ h → Has w (x % 64) → C (Link r a x)
  pub whole : (x : ℕ) → x / 64 ≡ h → C (Link r a x) → Has w (x % 64)
