-- `sheet::read_with` meets its contract. Assumes nothing.
use Rattle.std.proofs.Common.{arith}
use Rattle.sheet.proofs.read_with.Goals as goal

pub whole_as_slice-whole : goal.whole_as_slice-whole
whole_as_slice-whole g c = omega arith
