-- `convert::carry::copy` meets its contract. The loop's invariant is the contract up to `h`. Assumes nothing.
use Rattle.std.specs.Prelude.{refl}
use Rattle.std.proofs.Common.{arith}
use Rattle.row.specs.laws.Mapped.{mapped-done, mapped-more, mapped-none}
use Rattle.convert.specs.laws.Carry.{copy-here}
use Rattle.convert.proofs.carry.copy.Goals as goal

pub loop-h-init : goal.loop-h-init
loop-h-init c = mapped-done (mapped-none _ _ _) (omega arith) (omega arith)

pub loop-h-preserved : goal.loop-h-preserved
loop-h-preserved c = mapped-done (mapped-more c.loop-h.invariant (omega arith) (omega arith) (copy-here _ _ _ _ _ _ refl)) (omega arith) (omega arith)
