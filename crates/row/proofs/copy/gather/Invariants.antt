-- `row::copy::gather` meets its contract. Assumes nothing.
use Rattle.std.specs.Prelude.{◌≡◌}
use Rattle.row.specs.own.Change.{gathered}
use Rattle.row.proofs.copy.gather.Given as goal

abbrev pub invariant-loop-n : goal.invariant-loop-n
invariant-loop-n l = (l.r ≡ gathered l.s l.at l.step l.k l.n)
