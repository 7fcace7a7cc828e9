-- `row::pick::least` meets its contract: the first word with a bit has the least one. Assumes nothing.
use Rattle.std.proofs.Common.{arith}
use Rattle.row.specs.laws.Pick.{least-here}
use Rattle.row.proofs.pick.least.Goals as goal

pub returns-then-t-lt64 : goal.returns-then-t-lt64
returns-then-t-lt64 c = least-here _ _ (omega arith) c.loop-h.invariant c.if-t-lt64.true
