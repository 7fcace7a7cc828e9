-- `cited::print::put_line` meets its contract. Assumes nothing.
use Rattle.std.proofs.Common.{arith}
use Rattle.text.specs.laws.Text.{wrote_then}
use Rattle.cited.specs.Text.{numbered_text}
use Rattle.cited.proofs.print.put_line.Goals as goal

pub returns : goal.returns
unfolding numbered_text
returns c = let w = wrote_then (wrote_then (wrote_then c.put_all-word.ensures c.put_number-count.ensures.0) (wrote_then c.put-tab.ensures c.put_all-own.ensures)) c.put.ensures in
    (w, omega (arith, c.put_all-word.ensures.next, c.put_number-count.ensures.1, c.put-tab.ensures.next, c.put_all-own.ensures.next, c.put.ensures.next))
