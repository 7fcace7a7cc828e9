-- `cited::print::put_reason` meets its contract. Assumes nothing.
use Rattle.std.proofs.Common.{arith}
use Rattle.text.specs.laws.Text.{wrote_then}
use Rattle.cited.proofs.print.put_reason.Goals as goal

pub put_absent-at-requires : goal.put_absent-at-requires
put_absent-at-requires c = c.put_lines-p.ensures.short

pub returns : goal.returns
returns c = record { wrote = λ W x o. rw (← c.put_lines-p.ensures.total W x o) (wrote_then (wrote_then (c.put_lines-p.ensures.wrote W x o) c.put_absent-at.ensures.0) c.total.ensures.0); short = omega (arith, c.put_lines-p.ensures.short, c.put_absent-at.ensures.1, c.total.ensures.1) }
