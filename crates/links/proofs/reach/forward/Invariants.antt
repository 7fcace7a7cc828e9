-- `links::reach::forward` meets its contract. The loop's invariant: the links of the items below `z` are there. Assumes nothing.
use Rattle.std.specs.Prelude.{◌≡◌, false, ◌≤◌, ◌-◌, length}
use Rattle.row.specs.own.Row.{RowHas}
use Rattle.row.specs.own.Pick.{room}
use Rattle.store.specs.own.View.{held}
use Rattle.rule.specs.Meaning.{LinkedWay}
use Rattle.links.specs.own.Reach.{Gathered}
use Rattle.links.proofs.reach.forward.Given as goal

abbrev pub invariant-loop-z : goal.invariant-loop-z
invariant-loop-z l = (l.z ≤ l.view.counts.items) × (length l.r ≡ room) × Gathered l.view.counts.items (LinkedWay (held l.view) false l.role.0) (RowHas l.p) l.z l.r

abbrev pub decreases-loop-z : goal.decreases-loop-z
decreases-loop-z l = l.view.counts.items - l.z
