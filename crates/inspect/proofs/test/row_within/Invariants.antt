-- `inspect::test::row_within` meets its contract. Assumes nothing.
use Rattle.inspect.specs.own.Test.{RowPart}
use Rattle.inspect.proofs.test.row_within.Given as goal

abbrev pub invariant-loop-h : goal.invariant-loop-h
invariant-loop-h l = RowPart l.s l.a l.b l.h
