-- `row::pick::common` meets its contract. The loop's invariant: `n` counts what the first `h` words have in common. Assumes nothing.
use Rattle.logic.specs.Number.{Number}
use Rattle.row.specs.own.Pick.{InBoth}
use Rattle.row.proofs.pick.common.Given as goal

abbrev pub invariant-loop-h : goal.invariant-loop-h
invariant-loop-h l = Number (InBoth l.s l.from l.h l.p) l.n
