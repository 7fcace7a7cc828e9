-- `cited::print::put_line_if` meets its contract. Assumes nothing.
use Rattle.std.proofs.Common.{arith}
use Rattle.text.specs.laws.Text.{wrote_none}
use Rattle.cited.proofs.print.put_line_if.Goals as goal

pub returns-then-on : goal.returns-then-on
returns-then-on c = record { wrote = rw c.if-on.true c.put_line.ensures.0; total = rw c.if-on.true; short = rw c.if-on.true (omega (arith, c.put_line.ensures.1)) }

pub returns : goal.returns
returns c = record { wrote = rw c.if-on.false (wrote_none _ _); total = rw c.if-on.false (omega arith); short = rw c.if-on.false (omega arith) }
