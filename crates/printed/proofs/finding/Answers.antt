-- `printed::finding` meets its contract. Assumes nothing.
use Rattle.std.proofs.Common.{arith}
use Rattle.text.specs.laws.Text.{wrote_then}
use Rattle.printed.specs.own.Lines.{line_text}
use Rattle.printed.proofs.finding.Goals as goal

pub returns : goal.returns
unfolding line_text
returns c = let w = wrote_then (wrote_then (wrote_then (wrote_then c.put_all-word.ensures c.put_number-number.ensures.0) c.put_name-first.ensures.0) c.put_second-second.ensures.0) c.put.ensures in
    (w, omega (arith, c.put_all-word.ensures.next, c.put_number-number.ensures.1, c.put_name-first.ensures.1, c.put_second-second.ensures.1, c.put.ensures.next))
