-- `row::pick::without` meets its contract. The loop's invariant is the contract up to `h`, word by word. Assumes nothing.
use Rattle.row.specs.laws.Pick.{Zipped, less}
use Rattle.row.proofs.pick.without.Given as goal

abbrev pub invariant-loop-h : goal.invariant-loop-h
invariant-loop-h l = Zipped less l.a l.b l.h l.r
