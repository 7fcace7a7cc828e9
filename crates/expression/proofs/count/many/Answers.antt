-- `expression::count::many` meets its contract: several articles of an inverse by tallies, one by the turned role, others by one item of each article. Assumes nothing.
use Rattle.std.proofs.Common.{arith, rules}
use Rattle.expression.specs.laws.Many.{none-marks, some-marks, turned-marks}
use Rattle.store.specs.own.View.{held}
use Rattle.expression.proofs.count.many.Goals as goal

pub returns-then-k-eq0 : goal.returns-then-k-eq0
returns-then-k-eq0 c = none-marks c.if-k-eq0.true c.below.ensures

pub tally-requires : goal.tally-requires
tally-requires c = let z = c.counts_for.ensures.holds c.if-counts_for.true in
    let role = z.role in
    let some = z.some in
    let few = z.few in
    search rules

pub returns-then-counts_for : goal.returns-then-counts_for
returns-then-counts_for c = let z = c.counts_for.ensures.holds c.if-counts_for.true in rw z.inverse c.tally.ensures

pub returns-then-k-eq1 : goal.returns-then-k-eq1
returns-then-k-eq1 c = some-marks c.args.u c.if-k-eq1.true c.turned.ensures c.step_row-some.ensures

pub several-requires : goal.several-requires
several-requires c = (omega (arith, c.if-k-eq0.false), turned-marks (held c.args.view.now) c.args.u c.turned.ensures c.step_row-some.ensures)
