-- `breach::breaking::alone_row` meets its contract. A rule of two roots by whole rows; for the others the loop's invariant is the contract below `x`. Assumes nothing.
use Rattle.std.specs.Prelude.{◌≡◌, length}
use Rattle.row.specs.own.Row.{RowHas}
use Rattle.row.specs.own.Pick.{Marks, room}
use Rattle.store.specs.own.View.{held}
use Rattle.breach.specs.own.Plan.{BreaksBy}
use Rattle.breach.proofs.breaking.alone_row.Given as goal

abbrev pub invariant-loop-x : goal.invariant-loop-x
invariant-loop-x l = (length l.r ≡ room) × Marks l.x l.r (BreaksBy (held l.view) (RowHas l.plan.left) (RowHas l.plan.right) l.plan.head)
