-- `expression::lead::keep_leaders` meets its contract. The loop's invariant: of the items below `b`, the next item of the row, those are left that lead, and no other is the same as one of them. Assumes nothing.
use Rattle.std.specs.Prelude.{length, ◌-◌, ◌<◌, ◌≡◌, ◌≤◌}
use Rattle.row.specs.own.Row.{RowHas}
use Rattle.row.specs.own.Pick.{Marks, room}
use Rattle.store.specs.own.View.{held}
use Rattle.expression.specs.own.Lead.{Kept}
use Rattle.expression.proofs.lead.keep_leaders.Given as goal

abbrev pub invariant-loop-b : goal.invariant-loop-b
invariant-loop-b l = (l.b ≤ l.view.counts.items) × (length l.r ≡ room) × Marks l.view.counts.items l.r (Kept (held l.view) (RowHas l.initial.r) l.b) × (l.b < l.view.counts.items → RowHas l.r l.b)

abbrev pub decreases-loop-b : goal.decreases-loop-b
decreases-loop-b l = l.view.counts.items - l.b
