-- `question::ask::bare` meets its contract. Assumes nothing.
use Rattle.std.proofs.Common.{arith, ◌∙◌}
use Rattle.question.specs.laws.Asked.{bare-cut, bare-nothing, bare-whole}
use Rattle.question.proofs.ask.bare.Goals as goal
use Rattle.question.proofs.ask.bare.Goals.{else-n-gt0-via-then-n-gt0+else-question-n-eq10, else-n-gt0-via-else-n-gt0}

pub returns-then-question-n-eq10 : goal.returns-then-question-n-eq10
returns-then-question-n-eq10 c = c.part.ensures ∙ bare-cut _ c.if-question-n-eq10.true

pub returns : goal.returns
returns c = elim c.else-n-gt0.branch [
  | else-n-gt0-via-then-n-gt0+else-question-n-eq10 w ↦ bare-whole _ w.if-question-n-eq10.false
  | else-n-gt0-via-else-n-gt0 w ↦ bare-nothing _ (omega (arith, w.if-n-gt0.false))
]
