-- `inspect::below::blocks_below` meets its contract. Assumes nothing.
use Rattle.inspect.specs.own.Below.{BlocksBelow}
use Rattle.inspect.proofs.below.blocks_below.Given as goal

abbrev pub invariant-loop-r : goal.invariant-loop-r
invariant-loop-r l = BlocksBelow l.s l.from l.r l.width l.used l.n
