-- `row::pick::shares` meets its contract. The loop's invariant: the first `h` words share no number. Assumes nothing.
use Rattle.row.specs.own.Pick.{Shared}
use Rattle.row.proofs.pick.shares.Given as goal

abbrev pub invariant-loop-h : goal.invariant-loop-h
invariant-loop-h l = ¬ (Shared l.s l.from l.h l.p)
