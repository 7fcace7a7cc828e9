-- `reason::choose::mark_same` meets its contract. Assumes nothing.
use Rattle.std.proofs.Common.{arith, refl}
use Rattle.reason.specs.laws.Aim.{same-least, same-wanted, small-raised, small_at, steps-above}
use Rattle.reason.specs.own.Aim.{fact_at}
use Rattle.reason.proofs.choose.mark_same.Goals as goal

pub build-requires : goal.build-requires
build-requires c = (record { wide = omega arith; long = omega arith }, omega arith, rw c.kind_above-kind.ensures (steps-above c.requires.0), c.requires.0.few)

pub same_goal-goal-requires : goal.same_goal-goal-requires
same_goal-goal-requires c = (refl, rw c.fact_at.ensures (small-raised c.args.width (fact_at c.args.codes.now c.args.n) (small_at c.requires.0 c.args.n c.requires.1.low)), c.requires.0.bounded.above)

pub narrow-requires : goal.narrow-requires
narrow-requires c = rw (c.same_goal-goal.ensures, c.fact_at.ensures) (same-wanted c.requires.0 c.requires.1.low c.requires.2 (rw c.kind_above-kind.ensures at c.build.ensures) c.requires.1 c.requires.3)

pub returns : goal.returns
returns c = same-least c.requires.0 c.requires.1.low (rw c.kind_above-kind.ensures at c.build.ensures) (rw (c.same_goal-goal.ensures, c.fact_at.ensures) at c.narrow.ensures)
