-- `inspect::below::row_below` meets its contract. Assumes nothing.
use Rattle.std.specs.Prelude.{◌≡◌, ◌-◌, ◌*◌}
use Rattle.inspect.specs.own.Below.{RowBelow}
use Rattle.inspect.proofs.below.row_below.Given as goal

abbrev pub invariant-loop-h : goal.invariant-loop-h
invariant-loop-h l = (l.left ≡ l.n - l.h * 64) × RowBelow l.s l.at l.h l.n
