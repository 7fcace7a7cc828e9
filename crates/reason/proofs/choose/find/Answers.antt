-- `reason::choose::find` meets its contract: from no statement passed steps lead to the fact. Assumes nothing.
use Rattle.std.proofs.Common.{arith}
use Rattle.reason.specs.laws.Aim.{met, small-aim, small_at, unmet-more, unmet-never}
use Rattle.reason.proofs.choose.find.Goals as goal

pub meets-requires : goal.meets-requires
meets-requires c = (c.requires.0, rw c.fact_at.ensures (small_at c.requires.1.aimed c.loop-i.i (omega arith)), small-aim c.requires.1.aimed)

pub returns-then-meets : goal.returns-then-meets
returns-then-meets c = met c.requires.1 c.loop-i.i (omega arith) c.fact_at.ensures c.meets.ensures c.if-meets.true

pub loop-i-preserved : goal.loop-i-preserved
loop-i-preserved c = unmet-more c.requires.1 c.loop-i.i (omega arith) c.fact_at.ensures c.meets.ensures c.loop-i.invariant c.if-meets.false

pub returns : goal.returns
returns c = absurd (unmet-never c.requires.1 {i = c.loop-i.i} (omega arith) c.loop-i.invariant)
