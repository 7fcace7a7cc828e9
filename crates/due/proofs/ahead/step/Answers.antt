-- `due::ahead::step` meets its contract. Assumes nothing.
use Rattle.due.specs.laws.Due.{step-expr, step-from-own}
use Rattle.due.proofs.ahead.step.Goals as goal

pub returns-then-p-gt0 : goal.returns-then-p-gt0
returns-then-p-gt0 c = let x = c.args in step-expr x.l.now x.p x.o _ c.in-None.is c.if-p-gt0.true c.wants.ensures

pub returns-else-p-gt0 : goal.returns-else-p-gt0
returns-else-p-gt0 c = let x = c.args in step-from-own x.l.now x.p x.o _ c.in-None.is c.if-p-gt0.false c.step_own.ensures
