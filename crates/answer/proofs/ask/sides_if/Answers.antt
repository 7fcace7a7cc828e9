-- `answer::ask::sides_if` meets its contract. Assumes nothing.
use Rattle.std.proofs.Common.{refl, sym, true≢false, ◌∙◌}
use Rattle.answer.proofs.ask.sides_if.Goals as goal

pub returns-then-on : goal.returns-then-on
returns-then-on c = record { breaking = λ e. c.broken.ensures; none = λ e. absurd (true≢false (sym c.if-on.true ∙ e)) }

pub returns : goal.returns
returns c = record { breaking = λ e. absurd (true≢false (sym e ∙ c.if-on.false)); none = λ e. refl }
