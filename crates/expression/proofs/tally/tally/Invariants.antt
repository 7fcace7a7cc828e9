-- `expression::tally::tally` meets its contract. The loop's invariant is the contract for the items of the words below `h`. Assumes nothing.
use Rattle.std.specs.Prelude.{length, true, ◌/◌, ◌<◌, ◌≡◌}
use Rattle.row.specs.own.Row.{RowHas}
use Rattle.row.specs.own.Pick.{Marks, room}
use Rattle.store.specs.own.View.{held}
use Rattle.rule.specs.Meaning.{Articles, LinkedWay}
use Rattle.expression.proofs.tally.tally.Given as goal

abbrev pub invariant-loop-h : goal.invariant-loop-h
invariant-loop-h l = (length l.r ≡ room) × Marks l.view.counts.items l.r (λ x. (x / 64 < l.h) × Articles (held l.view) l.view.counts l.k (λ y. LinkedWay (held l.view) true l.role.0 x y × RowHas l.p y))
