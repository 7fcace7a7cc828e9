-- `expression::count::several` meets its contract. The loop's invariant is the contract below `x`. Assumes nothing.
use Rattle.std.specs.Prelude.{length, ◌-◌, ◌≡◌, ◌≤◌}
use Rattle.row.specs.own.Row.{RowHas}
use Rattle.row.specs.own.Pick.{Marks, room}
use Rattle.store.specs.own.View.{held}
use Rattle.rule.specs.Meaning.{Articles}
use Rattle.expression.specs.own.Row.{Found}
use Rattle.expression.proofs.count.several.Given as goal

abbrev pub invariant-loop-x : goal.invariant-loop-x
invariant-loop-x l = (l.x ≤ l.view.counts.items) × (length l.r ≡ room)
    × Marks l.x l.r (λ y. Articles (held l.view) l.view.counts l.k (Found (held l.view) l.u (RowHas l.p) y))

abbrev pub decreases-loop-x : goal.decreases-loop-x
decreases-loop-x l = l.view.counts.items - l.x
