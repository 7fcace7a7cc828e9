-- `printed::total` meets its contract. Assumes nothing.
use Rattle.std.proofs.Common.{arith}
use Rattle.text.specs.laws.Text.{wrote_then}
use Rattle.sheet.specs.Promise.{total_text}
use Rattle.printed.proofs.total.Goals as goal

pub returns : goal.returns
unfolding total_text
returns c = let w = wrote_then (wrote_then c.put_all-word.ensures c.put_number-count.ensures.0) c.put.ensures in
    (w, omega (arith, c.put_all-word.ensures.next, c.put_number-count.ensures.1, c.put.ensures.next))
