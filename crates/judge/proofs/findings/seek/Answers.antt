-- `judge::findings::seek` meets its contract: a rule of two roots by whole rows, others row by row. Assumes nothing.
use Rattle.std.proofs.Common.{◌∙◌, arith, rules, sym}
use Rattle.store.specs.own.View.{held}
use Rattle.breach.specs.laws.Plan.{sub-alone}
use Rattle.judge.specs.laws.Cursor.{gone-more, gone-none, sought-end, sought-here}
use Rattle.judge.proofs.findings.seek.Goals as goal

pub seek_alone-requires : goal.seek_alone-requires
seek_alone-requires c = (sub-alone c.args.plan.head (sym c.is_sub.ensures ∙ c.if-is_sub.true), c.requires)

pub loop-x-init : goal.loop-x-init
loop-x-init c = let v = c.args.view.now in gone-none (held v) v.counts c.args.plan c.args.from

pub returns-then-y-view : goal.returns-then-y-view
returns-then-y-view c = let v = c.args.view.now in
    sought-here (held v) v.counts c.args.plan (omega (arith, v.closed.fits.items, v.laid.wide)) c.loop-x.invariant (omega arith) c.loop-x-test.true c.places-row.ensures c.least-y.ensures c.if-y-view.true

pub loop-x-preserved : goal.loop-x-preserved
loop-x-preserved c = let v = c.args.view.now in gone-more (held v) v.counts c.args.plan c.loop-x.invariant c.places-row.ensures c.least-y.ensures c.if-y-view.false

pub returns : goal.returns
returns c = let v = c.args.view.now in
    sought-end (held v) v.counts c.args.plan (search rules) c.requires (omega arith) c.empty.ensures
