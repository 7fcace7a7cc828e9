-- `reader::scan::skip_one` meets its contract. Assumes nothing.
use Rattle.reader.specs.own.Scan.{Skips}
use Rattle.reader.proofs.scan.skip_one.Given as goal

abbrev pub invariant-loop-i : goal.invariant-loop-i
invariant-loop-i l = Skips l.text l.at l.i
