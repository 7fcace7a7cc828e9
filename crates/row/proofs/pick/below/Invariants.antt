-- `row::pick::below` meets its contract. The loop's invariant: the first `h` words are right, and `left` numbers remain. Assumes nothing.
use Rattle.row.specs.laws.Pick.{Lows}
use Rattle.row.proofs.pick.below.Given as goal

abbrev pub invariant-loop-h : goal.invariant-loop-h
invariant-loop-h l = Lows l.n l.h l.r
