-- `text::write::put_decimal` meets its contract. Assumes nothing.
use Rattle.std.proofs.Common.{length, arith, ap}
use Rattle.text.specs.laws.Text.{decimal-one, decimal-more, decimal-short, wrote_then}
use Rattle.text.proofs.write.+put_decimal.Goals as goal

pub put_decimal-p-requires : goal.put_decimal-p-requires
put_decimal-p-requires t c = (omega arith, omega arith)

pub returns-then-n-lt10 : goal.returns-then-n-lt10
returns-then-n-lt10 t c = let x = c.args in
    (rw (decimal-one x.n (omega arith)) c.put.ensures, omega (arith, c.put.ensures.next))

pub returns-else-n-lt10 : goal.returns-else-n-lt10
returns-else-n-lt10 t c = let x = c.args in
    let w = wrote_then c.put_decimal-p.ensures.0 c.put-else-n-lt10.ensures in
    let d = decimal-more x.n (omega arith) in
    (rw d w, omega (arith, decimal-short x.n (omega arith), w.next, ap length d))
