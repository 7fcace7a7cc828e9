-- `convert::carry::rows` meets its contract. The loop's invariant is the contract up to row `x`. Assumes nothing.
use Rattle.convert.specs.own.Carry.{RowsMoved}
use Rattle.convert.proofs.carry.rows.Given as goal

abbrev pub invariant-loop-x : goal.invariant-loop-x
invariant-loop-x l = RowsMoved l.s l.from l.old l.to l.new l.x l.initial.t l.t
