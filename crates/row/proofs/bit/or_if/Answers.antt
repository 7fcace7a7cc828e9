-- `row::bit::or_if` meets its contract. Assumes nothing.
use Rattle.row.specs.own.Change.{or_if}
use Rattle.row.proofs.bit.or_if.Goals as goal

pub returns-then-on : goal.returns-then-on
unfolding or_if
returns-then-on c = simp c.if-on.true

pub returns-else-on : goal.returns-else-on
unfolding or_if
returns-else-on c = simp c.if-on.false
