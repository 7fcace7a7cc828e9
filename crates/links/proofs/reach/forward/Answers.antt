-- `links::reach::forward` meets its contract. The loop's invariant: the links of the items below `z` are there. Assumes nothing.
use Rattle.std.proofs.Common.{arith}
use Rattle.links.specs.laws.Reach.{gathered-more, gathered-skip, none_between}
use Rattle.links.proofs.reach.forward.Goals as goal

pub loop-z-preserved-then-has : goal.loop-z-preserved-then-has
loop-z-preserved-then-has c = (omega arith, c.add_links.ensures.0, gathered-more c.args.role.0 c.loop-z.invariant.2 (c.has.ensures.holds c.if-has.true) c.add_links.ensures.1)

pub loop-z-preserved : goal.loop-z-preserved
loop-z-preserved c = (c.next-z.ensures.within, c.loop-z.invariant.1, gathered-skip c.loop-z.invariant.2 (none_between (c.has.ensures.fails c.if-has.false) c.next-z.ensures))
