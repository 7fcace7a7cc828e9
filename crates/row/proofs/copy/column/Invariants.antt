-- `row::copy::column` meets its contract. The loop's invariant is the contract for the bits of the first `h` words. Assumes nothing.
use Rattle.std.specs.Prelude.{◌≡◌, ◌+◌, ◌*◌, min, length, get_or}
use Rattle.row.specs.Bit.{Has}
use Rattle.row.specs.own.Pick.{Marks, room}
use Rattle.row.proofs.copy.column.Given as goal

abbrev pub invariant-loop-h : goal.invariant-loop-h
invariant-loop-h l = (length l.r ≡ room) × Marks (min (l.h * 64) l.count) l.r (λ y. Has (get_or l.s (l.from + y * l.step) 0) l.k)
