-- The answers of the entry points as signed numbers: the cells, or minus the number of refusal.
use Rattle.std.specs.Prelude.{◌≡◌, List, ℕ, ℤ}
use Rattle.store.specs.declared.Counts.{Counts}
use Rattle.closure.specs.Refusal.{Answer}
use Rattle.store.specs.Layout.{width_of}
use Rattle.closure.specs.Promise.{Makes}
use Rattle.batch.specs.Codes.{code_of}

-- the declared counts
abbrev pub counts : ℕ → ℕ → ℕ → Counts
counts items concepts roles = record { items = items; concepts = concepts; roles = roles }

-- making a fresh store of the words s leaves t and gives r
pub record FreshCode (n : Counts) (s t : List ℕ) (r : ℤ) : Type 0 where
  pub answer : Answer
  pub makes : Makes (width_of s) n s t answer
  pub code : r ≡ code_of answer
