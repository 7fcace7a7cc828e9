-- `Cursor::pairs` meets its contract: the nots of the first variable, and those of the others. Assumes nothing.
use Rattle.body.proofs.Cursor.+pairs.Given as goal

abbrev pub decreases-pairs : goal.decreases-pairs
decreases-pairs l = l.n
