-- `expression::count::linked_count` meets its contract, by the side that it asks. Assumes nothing.
use Rattle.expression.specs.laws.Many.{back-number, number-undeclared}
use Rattle.expression.proofs.count.linked_count.Goals as goal

pub returns-then-view-u : goal.returns-then-view-u
returns-then-view-u c = let v = c.args.view.now in number-undeclared v.at.width v.counts v.words.now c.args.p.now c.args.u c.args.x c.if-view-u.true

pub returns-then-u : goal.returns-then-u
returns-then-u c = back-number c.args.u c.args.x c.args.view.now.closed.fits.items c.if-u.true c.back_row-back.ensures c.common.ensures
