-- `inspect::below::rows_below` meets its contract. Assumes nothing.
use Rattle.inspect.specs.own.Below.{RowsBelow}
use Rattle.inspect.proofs.below.rows_below.Given as goal

abbrev pub invariant-loop-x : goal.invariant-loop-x
invariant-loop-x l = RowsBelow l.s l.from l.x l.width l.rows l.bits
