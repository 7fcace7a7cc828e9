-- `intake::read_full` meets its contract. Assumes nothing.
use Rattle.std.proofs.Common.{arith}
use Rattle.intake.proofs.Laws.{consumes-join, take-put}
use Rattle.intake.proofs.read_full.Goals as goal

pub loop-done-preserved : goal.loop-done-preserved
loop-done-preserved g c = (omega (arith, c.in-Ok.ensures.bound.0), rw (take-put c.loop-done.done _ c.in-Ok.n c.loop-done.room c.read.new.buf (omega arith) (omega (arith, c.in-Ok.ensures.bound.0))) (consumes-join _ _ _ _ _ c.loop-done.invariant.1 c.in-Ok.ensures.bytes.0))
