-- `row::bit::grow` meets its contract: what `has_bit` says is the condition of `grown`. Assumes nothing.
use Rattle.row.specs.own.Change.{grown}
use Rattle.row.proofs.bit.grow.Goals as goal

pub returns : goal.returns
unfolding grown
returns c = cc
