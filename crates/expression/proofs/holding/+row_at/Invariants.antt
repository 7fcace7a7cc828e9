-- `expression::holding::row_at` meets its contract, by the fall of `left`: a node's row follows from its children's rows. Assumes nothing.
-- what each callee asks and ensures
use Rattle.expression.proofs.holding.+row_at.Given as goal

abbrev pub decreases-row_at : goal.decreases-row_at
decreases-row_at l = l.left
