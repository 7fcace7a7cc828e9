-- `row::copy::take_off` meets its contract: one word more of the row loses its word. Assumes nothing.
use Rattle.std.proofs.Common.{arith}
use Rattle.row.specs.laws.Mapped.{mapped-more}
use Rattle.row.specs.laws.Together.{take-off}
use Rattle.row.proofs.copy.take_off.Goals as goal

pub loop-h-preserved : goal.loop-h-preserved
loop-h-preserved c = mapped-more c.loop-h.invariant (omega arith) (omega arith) (take-off _ _ _ _)
