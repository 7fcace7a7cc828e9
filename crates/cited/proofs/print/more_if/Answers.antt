-- `cited::print::more_if` meets its contract. Assumes nothing.
use Rattle.std.proofs.Common.{arith}
use Rattle.cited.proofs.print.more_if.Goals as goal

pub returns-then-on : goal.returns-then-on
returns-then-on c = rw c.if-on.true

pub returns : goal.returns
returns c = rw c.if-on.false (omega arith)
