-- `reason::choose::mark_above` meets its contract. Assumes nothing.
use Rattle.std.proofs.Common.{arith}
use Rattle.reason.specs.declared.Kind.TheVariants as kind
use Rattle.reason.specs.laws.Aim.{above-least, above-wanted, small-aim, small_at, steps-above, steps-below}
use Rattle.reason.proofs.choose.mark_above.Goals as goal

pub fill-requires : goal.fill-requires
fill-requires c = (c.requires.1, c.requires.0.fits.items, steps-below kind.Same c.requires.0.fits c.requires.0.within)

pub fill-requires-2 : goal.fill-requires-2
fill-requires-2 c = (record { wide = omega arith; long = omega arith }, omega arith, rw c.kind_above-kind.ensures (steps-above c.requires.0))

pub above_goal-goal-requires : goal.above_goal-goal-requires
above_goal-goal-requires c = (rw c.fact_at.ensures (small_at c.requires.0 c.find-n.result c.find-n.ensures.low), small-aim c.requires.0)

pub narrow-requires : goal.narrow-requires
narrow-requires c = rw (c.kind_above-kind.ensures, c.above_goal-goal.ensures, c.fact_at.ensures) (above-wanted c.requires.0 c.find-n.ensures.low c.fill-2.ensures.lent c.fill.ensures c.find-n.ensures.meets c.requires.2)

pub returns : goal.returns
returns c = above-least c.requires.0 c.find-n.ensures.low c.fill.ensures (rw (c.kind_above-kind.ensures, c.above_goal-goal.ensures, c.fact_at.ensures) at c.narrow.ensures)
