-- `row::pick::without` meets its contract, word by word. Assumes nothing.
use Rattle.std.proofs.Common.{arith}
use Rattle.row.specs.laws.Pick.{zipped-without}
use Rattle.row.proofs.pick.without.Goals as goal

pub returns : goal.returns
returns c = zipped-without c.loop-h.invariant (omega arith)
