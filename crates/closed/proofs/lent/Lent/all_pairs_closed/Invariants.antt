-- `closed::lent::Lent::all_pairs_closed` meets its contract. Assumes nothing.
use Rattle.std.specs.Prelude.{ℕ, ◌<◌}
use Rattle.closed.specs.own.Closed.{PairIncludes}
use Rattle.store.specs.Cell.{DeclaredItem}
use Rattle.closed.proofs.lent.Lent.all_pairs_closed.Given as goal

abbrev pub invariant-loop-a : goal.invariant-loop-a
invariant-loop-a l = (j : ℕ) → j < l.a → (b : ℕ) → DeclaredItem l.self.counts b → PairIncludes l.self.at l.self.words.now l.self.counts.roles j b
