-- `judge::findings::seek_alone` meets its contract: the next item of the row breaks the rule, and none before it. Assumes nothing.
use Rattle.std.proofs.Common.{arith}
use Rattle.store.specs.own.View.{held}
use Rattle.judge.specs.laws.Cursor.{gone-alone, sought-alone, sought-end}
use Rattle.judge.proofs.findings.seek_alone.Goals as goal

pub returns-then-x-view : goal.returns-then-x-view
returns-then-x-view c = let v = c.args.view.now in
    sought-end (held v) v.counts c.args.plan (gone-alone (held v) v.counts c.args.plan c.requires.0 c.alone_row-broken.ensures c.next-x.ensures) c.next-x.ensures.from (omega (arith, c.if-x-view.true)) c.empty-row.ensures

pub returns-else-x-view : goal.returns-else-x-view
returns-else-x-view c = let v = c.args.view.now in
    sought-alone (held v) v.counts c.args.plan c.requires.0 c.alone_row-broken.ensures c.next-x.ensures c.if-x-view.false c.item_row-row.ensures
