-- `reader::scan::line` meets its contract. Assumes nothing.
use Rattle.std.proofs.Common.{◌-◌, length}
use Rattle.reader.specs.laws.Scan.{Scanning}
use Rattle.reader.proofs.scan.line.Given as goal

abbrev pub invariant-loop-i : goal.invariant-loop-i
invariant-loop-i l = Scanning l.text l.at l.initial.ends l.i l.n l.good l.ends

abbrev pub decreases-loop-i : goal.decreases-loop-i
decreases-loop-i l = length l.text - l.i
