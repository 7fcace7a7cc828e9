-- Of the items that have a property, of each article the one with the lowest number.
use Rattle.std.specs.Prelude.{ℕ, ◌<◌}
use Rattle.store.specs.Cell.{Cell}
use Rattle.store.specs.Cell.Cell.{Same}

-- b has the property P, and no lower-numbered item that has it is the same
pub record Leads (C : Cell → Type 0) (P : ℕ → Type 0) (b : ℕ) : Type 0 where
  pub has : P b
  pub first : (c : ℕ) → c < b → P c → ¬ (C (Same b c))

-- x has the property P, and no lower-numbered item below i that has it is the same
pub record Kept (C : Cell → Type 0) (P : ℕ → Type 0) (i x : ℕ) : Type 0 where
  pub has : P x
  pub first : (c : ℕ) → c < i → c < x → P c → ¬ (C (Same x c))
