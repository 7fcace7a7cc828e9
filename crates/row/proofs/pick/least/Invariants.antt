-- `row::pick::least` meets its contract. The loop's invariant: the words below `h` have no bit. Assumes nothing.
use Rattle.row.specs.laws.Pick.{NoneBelow}
use Rattle.row.proofs.pick.least.Given as goal

abbrev pub invariant-loop-h : goal.invariant-loop-h
invariant-loop-h l = NoneBelow l.r l.h
