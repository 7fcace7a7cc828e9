-- `row::copy::row_of` meets its contract. The loop's invariant is the contract up to `h`. Assumes nothing.
use Rattle.row.specs.own.Row.{Copied}
use Rattle.row.specs.own.Pick.{room}
use Rattle.row.proofs.copy.row_of.Given as goal

abbrev pub invariant-loop-h : goal.invariant-loop-h
invariant-loop-h l = Copied l.s l.at l.h room l.r
