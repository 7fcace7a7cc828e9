-- `expression::tally::count_word` meets its contract. The loop's invariant is the contract for the words above `j`. Assumes nothing.
use Rattle.expression.specs.own.Tally.{Counted}
use Rattle.expression.proofs.tally.count_word.Given as goal

abbrev pub invariant-loop-j : goal.invariant-loop-j
invariant-loop-j l = Counted l.j l.k l.w l.initial.t l.t
