-- What counting the findings of a rule gives.
use Rattle.std.specs.Prelude.{ℕ, Result}
use Rattle.judge.specs.declared.RuleRefusal.{RuleRefusal}

-- how many findings a rule has, or why it is refused
abbrev pub Total : Type 0
Total = Result ℕ RuleRefusal
