-- `trail::step` meets its contract. Assumes nothing.
use Rattle.std.proofs.Common.{arith}
use Rattle.trail.specs.laws.Trail.{steps-along, steps-over}
use Rattle.trail.proofs.step.Goals as goal

pub returns-then-c-gt1 : goal.returns-then-c-gt1
returns-then-c-gt1 c = steps-along c.requires c.if-c-gt1.true c.step.ensures

pub returns : goal.returns
returns c = steps-over (omega arith) c.seek.ensures
