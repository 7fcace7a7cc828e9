-- `Cursor::expr` and `Cursor::turns` meet their contracts. The measure is 16 times the nodes left, and for `turns` besides the turns left and 1: there are at most 8. Assumes nothing.
use Rattle.std.proofs.Common.{◌+◌, ◌*◌}
use Rattle.body.proofs.Cursor.+expr_turns.Given as goal

abbrev pub decreases-expr : goal.decreases-expr
decreases-expr l = 16 * l.left

abbrev pub decreases-turns : goal.decreases-turns
decreases-turns l = 16 * l.left + (l.n + 1)
