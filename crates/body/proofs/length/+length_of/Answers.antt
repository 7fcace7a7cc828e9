-- `length::length_of` meets its contract: the arm of at least has a law of its own. Assumes nothing.
use Rattle.body.proofs.Nodes.{capped_at}
use Rattle.body.specs.laws.Capped.{cap-least}
use Rattle.body.proofs.length.+length_of.Goals as goal

pub returns-in-AtLeast : goal.returns-in-AtLeast
returns-in-AtLeast t c = capped_at _ _ c.if-left-eq0.false c.node_at.ensures c.in-AtLeast.is (cap-least _ _ _ _ _ c.length_of-in-AtLeast.ensures c.at_least.ensures)
