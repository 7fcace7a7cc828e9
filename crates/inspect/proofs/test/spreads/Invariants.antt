-- `inspect::test::spreads` meets its contract. Assumes nothing.
use Rattle.inspect.specs.own.Test.{Spreads}
use Rattle.inspect.proofs.test.spreads.Given as goal

abbrev pub invariant-loop-y : goal.invariant-loop-y
invariant-loop-y l = Spreads l.s l.a l.c l.from l.width l.y l.size l.blocks
