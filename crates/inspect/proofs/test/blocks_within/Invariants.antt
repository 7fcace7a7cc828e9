-- `inspect::test::blocks_within` meets its contract. Assumes nothing.
use Rattle.inspect.specs.own.Test.{BlocksPart}
use Rattle.inspect.proofs.test.blocks_within.Given as goal

abbrev pub invariant-loop-r : goal.invariant-loop-r
invariant-loop-r l = BlocksPart l.s l.a l.b l.width l.size l.r
