-- `length::length_of` meets its contract: each arm adds up its own kind. Assumes nothing.
use Rattle.body.proofs.length.+length_of.Given as goal

abbrev pub decreases-length_of : goal.decreases-length_of
decreases-length_of l = l.left
