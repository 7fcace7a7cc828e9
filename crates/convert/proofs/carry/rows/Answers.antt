-- `convert::carry::rows` meets its contract. The loop's invariant is the contract up to row `x`. Assumes nothing.
use Rattle.std.proofs.Common.{refl}
use Rattle.convert.specs.laws.Carry.{rows_more}
use Rattle.convert.proofs.carry.rows.Goals as goal

pub loop-x-preserved : goal.loop-x-preserved
loop-x-preserved c = rows_more _ c.loop-x.invariant refl refl c.min-words.ensures c.copy.ensures
