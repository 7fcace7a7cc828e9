-- `judge::findings::second_at` meets its contract, by whether the rule is broken by pairs. Assumes nothing.
use Rattle.std.specs.Prelude.{Bool}
use Rattle.std.proofs.Common.{ap, sym, ◌∙◌}
use Rattle.breach.specs.own.Plan.{second_if}
use Rattle.judge.proofs.findings.second_at.Goals as goal

pub returns-then-is_pair : goal.returns-then-is_pair
returns-then-is_pair c = sym (ap (λ (t : Bool). second_if t c.args.y) (sym c.is_pair.ensures ∙ c.if-is_pair.true))
