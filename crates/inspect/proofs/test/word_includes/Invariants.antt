-- `inspect::test::word_includes` meets its contract. Assumes nothing.
use Rattle.inspect.specs.own.Test.{WordIncludes}
use Rattle.inspect.proofs.test.word_includes.Given as goal

abbrev pub invariant-loop-y : goal.invariant-loop-y
invariant-loop-y l = WordIncludes l.s l.z l.from l.y
