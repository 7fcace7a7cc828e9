-- `printed::put_name` meets its contract. Assumes nothing.
use Rattle.std.proofs.Common.{arith}
use Rattle.text.specs.laws.Text.{wrote_then}
use Rattle.field.specs.own.Table.{items_from}
use Rattle.printed.specs.laws.Lines.{name-short}
use Rattle.printed.proofs.put_name.Goals as goal

pub put_all-requires : goal.put_all-requires
put_all-requires c = let k = c.args.known.now in
    let short = name-short k.sheet.now k.numbers.now items_from k.counts.items (omega (arith, k.tidy.long, k.tidy.room.items)) c.args.a.0 in
    (omega (arith, c.put-p.ensures.next), rw c.name.ensures (omega (arith, short)))

pub returns : goal.returns
returns c = let k = c.args.known.now in
    let short = name-short k.sheet.now k.numbers.now items_from k.counts.items (omega (arith, k.tidy.long, k.tidy.room.items)) c.args.a.0 in
    let w = wrote_then c.put-p.ensures (rw c.name.ensures at c.put_all.ensures) in
    (w, omega (arith, w.next, short))
