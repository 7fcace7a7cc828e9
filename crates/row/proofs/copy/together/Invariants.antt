-- `row::copy::together` meets its contract. The loop's invariant is the contract up to `h`. Assumes nothing.
use Rattle.row.specs.own.Pick.{Together}
use Rattle.row.proofs.copy.together.Given as goal

abbrev pub invariant-loop-h : goal.invariant-loop-h
invariant-loop-h l = Together l.s l.from l.h l.r l.t
