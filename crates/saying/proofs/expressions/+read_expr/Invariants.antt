-- `saying::expressions::read_expr` meets its contract, by the fall of `left`: the nodes of a word, then those of its children. Assumes nothing.
use Rattle.saying.proofs.expressions.+read_expr.Given as goal

abbrev pub decreases-read_expr : goal.decreases-read_expr
decreases-read_expr l = l.left
