-- `inspect::test::rows_include` meets its contract. Assumes nothing.
use Rattle.inspect.specs.own.Test.{RowsInclude}
use Rattle.inspect.proofs.test.rows_include.Given as goal

abbrev pub invariant-loop-x : goal.invariant-loop-x
invariant-loop-x l = RowsInclude l.s l.at l.x l.from l.width l.count
