-- `links::reach::backward` meets its contract. The loop's invariant is the contract below `y`. Assumes nothing.
use Rattle.std.specs.Prelude.{◌≡◌, true, length}
use Rattle.row.specs.own.Row.{RowHas}
use Rattle.row.specs.own.Pick.{Marks, room}
use Rattle.store.specs.own.View.{held}
use Rattle.rule.specs.Meaning.{LinkedWay}
use Rattle.links.specs.own.Reach.{Reached}
use Rattle.links.proofs.reach.backward.Given as goal

abbrev pub invariant-loop-y : goal.invariant-loop-y
invariant-loop-y l = (length l.r ≡ room) × Marks l.y l.r (Reached (LinkedWay (held l.view) true l.role.0) (RowHas l.p))
