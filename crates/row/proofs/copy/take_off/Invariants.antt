-- `row::copy::take_off` meets its contract. The loop's invariant is the contract up to `h`. Assumes nothing.
use Rattle.row.specs.own.Change.{Mapped, take_off}
use Rattle.row.proofs.copy.take_off.Given as goal

abbrev pub invariant-loop-h : goal.invariant-loop-h
invariant-loop-h l = Mapped (take_off l.s l.from) 0 l.h l.initial.t l.t
