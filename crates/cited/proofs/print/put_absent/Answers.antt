-- `cited::print::put_absent` meets its contract. Assumes nothing.
use Rattle.std.proofs.Common.{arith, ap, length}
use Rattle.text.specs.laws.Text.{wrote_none, wrote_then}
use Rattle.printed.specs.laws.Lines.{name-short}
use Rattle.cited.specs.Text.{absent_text}
use Rattle.field.specs.own.Table.{concepts_from}
use Rattle.cited.proofs.print.put_absent.Goals as goal

pub returns-in_default : goal.returns-in_default
returns-in_default c = rw c.in_default.is (wrote_none _ _, omega arith)

pub put_all-name-requires : goal.put_all-name-requires
put_all-name-requires c = let k = c.args.known.now in
    let short = name-short k.sheet.now k.numbers.now concepts_from k.counts.concepts (omega (arith, k.tidy.long, k.tidy.room.concepts)) c.in-Some.a.concept in
    (omega (arith, c.put-tab.ensures.next, c.put_name-item.ensures.1, c.put_all-word.ensures.next), rw c.concept.ensures (omega (arith, short)))

pub put-requires : goal.put-requires
put-requires c = let k = c.args.known.now in
    let short = name-short k.sheet.now k.numbers.now concepts_from k.counts.concepts (omega (arith, k.tidy.long, k.tidy.room.concepts)) c.in-Some.a.concept in
    omega (arith, c.put_all-name.ensures.next, ap length c.concept.ensures, short, c.put-tab.ensures.next, c.put_name-item.ensures.1, c.put_all-word.ensures.next)

pub returns : goal.returns
unfolding absent_text
returns c = let k = c.args.known.now in
    let short = name-short k.sheet.now k.numbers.now concepts_from k.counts.concepts (omega (arith, k.tidy.long, k.tidy.room.concepts)) c.in-Some.a.concept in
    let w = wrote_then (wrote_then (wrote_then c.put_all-word.ensures c.put_name-item.ensures.0) (wrote_then c.put-tab.ensures (rw c.concept.ensures at c.put_all-name.ensures))) c.put.ensures in
    rw c.in-Some.is (w, omega (arith, c.put.ensures.next, c.put_all-name.ensures.next, ap length c.concept.ensures, short, c.put-tab.ensures.next, c.put_name-item.ensures.1, c.put_all-word.ensures.next))
