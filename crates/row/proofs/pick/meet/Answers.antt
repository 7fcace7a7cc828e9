-- `row::pick::meet` meets its contract, word by word. Assumes nothing.
use Rattle.std.proofs.Common.{arith}
use Rattle.row.specs.laws.Pick.{zipped-met}
use Rattle.row.proofs.pick.meet.Goals as goal

pub returns : goal.returns
returns c = zipped-met c.loop-h.invariant (omega arith)
