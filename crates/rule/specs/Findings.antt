-- The findings of a rule: all that breaks it, each once, by the first item number and then the second.
use Rattle.std.specs.Prelude.{◌≡◌, ◌⊎◌, List, [], ◌∷◌, ℕ, ◌<◌}
use Rattle.logic.specs.Number.{One}
use Rattle.store.specs.declared.Counts.{Counts}
use Rattle.store.specs.Cell.{Cell}
use Rattle.rule.specs.declared.Finding.{Finding}
use Rattle.rule.specs.declared.Rule.{Rule}
use Rattle.rule.specs.Second.{Second}
use Rattle.std.specs.Prelude.{None, Some}
use Rattle.rule.specs.Breaks.{Breaks}

-- the order of second items
abbrev pub SecondBefore : Second → Second → Type 0
SecondBefore None None = ⊥
SecondBefore None (Some j) = Unit {0}
SecondBefore (Some i) None = ⊥
SecondBefore (Some i) (Some j) = i.0 < j.0

-- the order of findings of one rule
abbrev pub Before : Finding → Finding → Type 0
Before f g = (f.item.0 < g.item.0) ⊎ ((f.item.0 ≡ g.item.0) × SecondBefore f.second g.second)

-- each finding of the list comes before those after it
pub data InOrder : List Finding → Type 0 where
  none : InOrder []
  more : {f : Finding} {fs : List Finding} → ((g : Finding) → One g fs → Before f g) → InOrder fs → InOrder (f ∷ fs)

-- the finding with the rule's number, the first item and the second or none
abbrev pub finding_of : ℕ → ℕ → Second → Finding
finding_of number x s = record { rule = number; item = record { 0 = x }; second = s }

-- the list has exactly what breaks the rule, over the cells C, in order
pub record Findings (C : Cell → Type 0) (n : Counts) (number : ℕ) (u : Rule) (fs : List Finding) : Type 0 where
  pub ordered : InOrder fs
  pub sound : (f : Finding) → One f fs → (f.rule ≡ number) × Breaks C n u f.item.0 f.second
  pub whole : (x : ℕ) (s : Second) → Breaks C n u x s → One (finding_of number x s) fs
