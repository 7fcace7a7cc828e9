-- `row::pick::next` meets its contract. The loop's invariant: from `x` up to word `h` no number is in the row. Assumes nothing.
use Rattle.std.specs.Prelude.{◌*◌}
use Rattle.row.specs.laws.Pick.{NoneFrom}
use Rattle.row.proofs.pick.next.Given as goal

abbrev pub invariant-loop-h : goal.invariant-loop-h
invariant-loop-h l = NoneFrom l.r l.x (l.h * 64)
