-- `closed::lent::Lent::pairs_closed` meets its contract. Assumes nothing.
use Rattle.std.specs.Prelude.{ℕ, ◌<◌}
use Rattle.closed.specs.own.Closed.{PairIncludes}
use Rattle.closed.proofs.lent.Lent.pairs_closed.Given as goal

abbrev pub invariant-loop-b : goal.invariant-loop-b
invariant-loop-b l = (j : ℕ) → j < l.b → PairIncludes l.self.at l.self.words.now l.self.counts.roles l.a j
