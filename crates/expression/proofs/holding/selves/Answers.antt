-- `expression::holding::selves` meets its contract. The loop's invariant is the contract below `x`. Assumes nothing.
use Rattle.std.proofs.Common.{arith, ◌∙◌}
use Rattle.row.specs.laws.Marks.{marks-done, marks-more}
use Rattle.expression.proofs.holding.selves.Goals as goal

pub loop-x-preserved : goal.loop-x-preserved
loop-x-preserved c = (c.mark.ensures.len ∙ c.loop-x.invariant.0, marks-more c.loop-x.invariant.1 c.linked.ensures c.mark.ensures)

pub returns : goal.returns
returns c = marks-done c.loop-x.invariant.1 c.loop-x.auto.x-end (omega arith)
