-- `expression::tally::tally_word` meets its contract. The loop's invariant: the items below `b`, the next item of the row, are counted. Assumes nothing.
use Rattle.std.specs.Prelude.{◌-◌, ◌<◌, ◌≤◌}
use Rattle.row.specs.own.Row.{RowHas}
use Rattle.store.specs.own.View.{held}
use Rattle.expression.specs.own.Tally.{Tallied}
use Rattle.expression.proofs.tally.tally_word.Given as goal

abbrev pub invariant-loop-b : goal.invariant-loop-b
invariant-loop-b l = (l.b ≤ l.view.counts.items) × Tallied (held l.view) l.role.0 l.p l.h l.k l.b l.t × (l.b < l.view.counts.items → RowHas l.p l.b)

abbrev pub decreases-loop-b : goal.decreases-loop-b
decreases-loop-b l = l.view.counts.items - l.b
