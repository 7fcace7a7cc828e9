-- `convert::carry::copy` meets its contract. The loop's invariant is the contract up to `h`. Assumes nothing.
use Rattle.std.specs.Prelude.{◌+◌}
use Rattle.row.specs.own.Change.{Mapped}
use Rattle.convert.specs.own.Carry.{copy_f}
use Rattle.convert.proofs.carry.copy.Given as goal

abbrev pub invariant-loop-h : goal.invariant-loop-h
invariant-loop-h l = Mapped (copy_f l.s l.from l.to) l.to (l.to + l.h) l.initial.t l.t
