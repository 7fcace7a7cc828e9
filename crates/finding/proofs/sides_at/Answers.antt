-- `finding::sides_at` meets its contract. Assumes nothing.
use Rattle.finding.specs.laws.Finding.{sides-left-not, sides-names, sides-right-not}
use Rattle.finding.proofs.sides_at.Goals as goal

pub returns-in_err-left : goal.returns-in_err-left
returns-in_err-left c = rw c.from_residual.ensures (sides-left-not c.requires (rw c.node_at.ensures at c.in_err-left.ensures))

pub returns-in_err-right : goal.returns-in_err-right
returns-in_err-right c = rw c.from_residual-in_err-right.ensures (sides-right-not c.requires (rw c.node_at-2.ensures at c.in_err-right.ensures))

pub returns : goal.returns
returns c = sides-names c.requires c.in_ok-left.left c.in_ok-right.right (rw c.node_at.ensures at c.in_ok-left.ensures) (rw c.node_at-2.ensures at c.in_ok-right.ensures)
