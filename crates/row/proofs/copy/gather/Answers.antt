-- `row::copy::gather` meets its contract: one word more gives one bit more. Assumes nothing.
use Rattle.row.specs.laws.Gather.{gathered_none, gathered-more}
use Rattle.row.proofs.copy.gather.Goals as goal

pub loop-n-init : goal.loop-n-init
loop-n-init c = gathered_none _ _ _ _

pub loop-n-preserved : goal.loop-n-preserved
loop-n-preserved c = gathered-more c.args.s.now c.args.at c.args.step c.args.k c.loop-n.n _ _ _ _ c.loop-n.invariant c.has_bit-on.ensures c.one_bit.ensures c.or_if-r.ensures
