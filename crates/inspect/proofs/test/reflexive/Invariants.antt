-- `inspect::test::reflexive` meets its contract. Assumes nothing.
use Rattle.inspect.specs.own.Test.{Reflexive}
use Rattle.inspect.proofs.test.reflexive.Given as goal

abbrev pub invariant-loop-x : goal.invariant-loop-x
invariant-loop-x l = Reflexive l.s l.from l.width l.x
