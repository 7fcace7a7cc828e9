-- `inspect::test::includes` meets its contract. Assumes nothing.
use Rattle.inspect.specs.own.Test.{Includes}
use Rattle.inspect.proofs.test.includes.Given as goal

abbrev pub invariant-loop-y : goal.invariant-loop-y
invariant-loop-y l = Includes l.s l.a l.from l.c l.width l.y
