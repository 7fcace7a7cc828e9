-- "Within a call the lowest number that applies."
use Rattle.std.specs.Prelude.{ℕ, ◌<◌}

-- k applies, and no number below it
pub record Lowest (Applies : ℕ → Type 0) (k : ℕ) : Type 0 where
  pub applies : Applies k
  pub lowest : (j : ℕ) → j < k → ¬ (Applies j)

-- no number applies
abbrev pub NoneApplies : (ℕ → Type 0) → Type 0
NoneApplies Applies = (k : ℕ) → ¬ (Applies k)
