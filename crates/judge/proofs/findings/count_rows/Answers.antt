-- `judge::findings::count_rows` meets its contract. The loop's invariant: the findings in the rows passed are counted. Assumes nothing.
use Rattle.std.proofs.Common.{arith}
use Rattle.store.specs.own.View.{held}
use Rattle.breach.specs.laws.Plan.{pair-places}
use Rattle.judge.specs.laws.Cursor.{count_none, count-more, count-all}
use Rattle.judge.proofs.findings.count_rows.Goals as goal

pub overflow_add-n : goal.overflow_add-n
overflow_add-n c = omega (arith, c.ones-n.ensures.1, c.loop-x.invariant.0, c.args.view.now.closed.fits.items, c.args.view.now.laid.wide)

pub loop-x-preserved : goal.loop-x-preserved
loop-x-preserved c = let n = c.args.view.now.counts in
    let C = held c.args.view.now in
    let p = c.args.plan in
    (omega (arith, c.ones-n.ensures.1, c.loop-x.invariant.0), count-more C n p c.loop-x.invariant.1 c.loop-x-test.true (pair-places C n p c.loop-x.x c.requires c.pair_row.ensures) c.ones-n.ensures.0)

pub returns : goal.returns
returns c = let n = c.args.view.now.counts in
    let C = held c.args.view.now in
    count-all C n c.args.plan c.loop-x.invariant.1 c.loop-x-test.false

pub loop-x-init : goal.loop-x-init
loop-x-init c = let v = c.args.view.now in (omega arith, count_none (held v) v.counts c.args.plan)
