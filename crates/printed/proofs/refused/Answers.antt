-- `printed::refused` meets its contract. Assumes nothing.
use Rattle.std.proofs.Common.{arith}
use Rattle.text.specs.laws.Text.{wrote_then}
use Rattle.sheet.specs.Promise.{refused_text}
use Rattle.printed.proofs.refused.Goals as goal

pub returns : goal.returns
unfolding refused_text
returns c = let w = wrote_then (wrote_then (wrote_then c.put_all-word.ensures c.put_number-first.ensures.0) c.put_number-second.ensures.0) c.put.ensures in
    (w, omega (arith, c.put_all-word.ensures.next, c.put_number-first.ensures.1, c.put_number-second.ensures.1, c.put.ensures.next))
