-- `reason::marks::mark` meets its contract. Assumes nothing.
use Rattle.std.proofs.Common.{arith}
use Rattle.row.specs.laws.Pick.{marked-set}
use Rattle.reason.proofs.marks.mark.Goals as goal

pub returns : goal.returns
returns c = marked-set _ _ _ (omega (arith, c.requires.0, c.requires.1)) c.one_bit.ensures c.or_if.ensures
