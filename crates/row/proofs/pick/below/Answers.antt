-- `row::pick::below` meets its contract: all words have the bits of the numbers below n. Assumes nothing.
use Rattle.std.proofs.Common.{arith}
use Rattle.row.specs.laws.Pick.{lows-done}
use Rattle.row.proofs.pick.below.Goals as goal

pub returns : goal.returns
returns c = lows-done c.loop-h.invariant (omega arith) (omega arith)
