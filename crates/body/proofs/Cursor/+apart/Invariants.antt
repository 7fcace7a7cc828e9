-- `Cursor::apart` meets its contract: one not, and those after it. Assumes nothing.
use Rattle.body.proofs.Cursor.+apart.Given as goal

abbrev pub decreases-apart : goal.decreases-apart
decreases-apart l = l.n
