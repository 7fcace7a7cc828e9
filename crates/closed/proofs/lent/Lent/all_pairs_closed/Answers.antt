-- `closed::lent::Lent::all_pairs_closed` meets its contract: one item more. Assumes nothing.
use borrow.Author.Count.{below_more}
use Rattle.closed.proofs.lent.Lent.all_pairs_closed.Goals as goal

pub loop-a-preserved : goal.loop-a-preserved
loop-a-preserved c = below_more _ _ c.loop-a.invariant (c.pairs_closed.ensures.holds c.if-not-pairs_closed.false)
