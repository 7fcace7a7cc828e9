-- `breach::breaking::alone_row` meets its contract. A rule of two roots by whole rows; for the others the loop's invariant is the contract below `x`. Assumes nothing.
use Rattle.std.proofs.Common.{◌∙◌, arith, sym}
use Rattle.row.specs.laws.Marks.{marks-done, marks-more}
use Rattle.store.specs.own.View.{held}
use Rattle.breach.specs.laws.Plan.{sub-marks}
use Rattle.breach.proofs.breaking.alone_row.Goals as goal

pub returns-then-is_sub : goal.returns-then-is_sub
returns-then-is_sub c = sub-marks (held c.args.view.now) c.args.plan.head (sym c.is_sub.ensures ∙ c.if-is_sub.true) c.but.ensures

pub loop-x-preserved : goal.loop-x-preserved
loop-x-preserved c = (c.mark.ensures.len ∙ c.loop-x.invariant.0, marks-more c.loop-x.invariant.1 c.breaks_alone-on.ensures c.mark.ensures)

pub returns : goal.returns
returns c = marks-done c.loop-x.invariant.1 c.loop-x.auto.x-end (omega arith)
