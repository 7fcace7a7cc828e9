-- The second half of demand 2: the compiled query has the findings as its answers, and no others.
use Rattle.std.specs.Prelude.{◌≡◌, ◌↔◌, List, [], ◌∷◌, ℕ}
use Rattle.logic.specs.Number.{One}
use Rattle.store.specs.declared.Counts.{Counts}
use Rattle.store.specs.declared.Item.{Item}
use Rattle.store.specs.Cell.{Cell}
use Rattle.rule.specs.declared.Finding.{Finding}
use Rattle.rule.specs.Second.{Second}
use Rattle.std.specs.Prelude.{None, Some}
use Rattle.sense.specs.Says.{Answer}

-- a finding as the items of the answer variables: none of them where the rule has no x, the item where it has x alone, both where it has x and y
pub data Shown : ℕ → ℕ → Second → List ℕ → Type 0 where
  yes : {x : ℕ} {s : Second} → Shown 0 x s []
  alone : {x : ℕ} → Shown 1 x None (x ∷ [])
  pair : {x : ℕ} {y : Item} → Shown 2 x (Some y) (x ∷ y.0 ∷ [])

-- the query with these words and k answer variables has the findings fs as its answers, over the cells C
pub record SameAnswers (C : Cell → Type 0) (n : Counts) (k : ℕ) (ws : List ℕ) (fs : List Finding) : Type 0 where
  -- an answer is a finding, and a finding is an answer
  pub exactly : (xs : List ℕ) → Answer C n k ws xs ↔ ((f : Finding) × One f fs × Shown k f.item.0 f.second xs)
  -- every finding shows in the answer variables
  pub every : (f : Finding) → One f fs → (xs : List ℕ) × Shown k f.item.0 f.second xs
  -- a rule without x has one finding at most, so that yes stands for that one
  pub only : k ≡ 0 → (f g : Finding) → One f fs → One g fs → f ≡ g
