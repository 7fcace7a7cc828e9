-- The first half of demand 2: the findings are exactly what breaks the rule.
use Rattle.std.specs.Prelude.{◌≡◌, ◌↔◌, List, ℕ, length}
use Rattle.logic.specs.Number.{One, Number}
use Rattle.store.specs.declared.Counts.{Counts}
use Rattle.store.specs.Layout.{Holds}
use Rattle.rule.specs.declared.Finding.{Finding}
use Rattle.rule.specs.declared.Rule.{Rule}
use Rattle.rule.specs.Second.{Second}
use Rattle.judge.specs.Total.{Total}
use Rattle.std.specs.Prelude.{Ok}
use Rattle.rule.specs.Breaks.{Breaks}
use Rattle.rule.specs.Findings.{InOrder, finding_of}
use Rattle.judge.specs.Promise.{filled}

-- what a listing of the rule u with the number k in the store s gives: the list `before` has become `after`, the answer is r
pub record Demand2 (W : ℕ) (n : Counts) (k : ℕ) (u : Rule) (s : List ℕ) (before after : List Finding) (r : Total) : Type 0 where
  pub findings : List Finding
  -- an item alone, or a pair, is among the findings exactly if it breaks the rule
  pub exactly : (x : ℕ) (y : Second) → One (finding_of k x y) findings ↔ Breaks (Holds W n s) n u x y
  -- each once, in order
  pub ordered : InOrder findings
  -- the total is their number, and that of what breaks the rule
  pub total : r ≡ Ok (length findings)
  pub number : Number (λ (p : ℕ × Second). Breaks (Holds W n s) n u p.0 p.1) (length findings)
  -- the list begins with the first ones as far as it reaches, and goes on as it was
  pub written : after ≡ filled findings before
