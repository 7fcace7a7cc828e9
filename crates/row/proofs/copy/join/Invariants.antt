-- `row::copy::join` meets its contract. The loop's invariant is the contract up to `h`. Assumes nothing.
use Rattle.row.specs.own.Row.{Joined}
use Rattle.row.specs.own.Pick.{room}
use Rattle.row.proofs.copy.join.Given as goal

abbrev pub invariant-loop-h : goal.invariant-loop-h
invariant-loop-h l = Joined l.s l.a l.b l.h room l.r
