-- `expression::holding::selves` meets its contract. The loop's invariant is the contract below `x`. Assumes nothing.
use Rattle.std.specs.Prelude.{length, ◌≡◌}
use Rattle.row.specs.own.Pick.{Marks, room}
use Rattle.store.specs.own.View.{held}
use Rattle.rule.specs.Meaning.{Linked}
use Rattle.expression.proofs.holding.selves.Given as goal

abbrev pub invariant-loop-x : goal.invariant-loop-x
invariant-loop-x l = (length l.r ≡ room) × Marks l.x l.r (λ y. Linked (held l.view) l.u y y)
