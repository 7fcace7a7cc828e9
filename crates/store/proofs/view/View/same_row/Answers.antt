-- `store::view::View::same_row` meets its contract: the row is copied from where the layout has it. Assumes nothing.
use Rattle.store.specs.laws.Look.{same-marks}
use Rattle.store.proofs.view.View.same_row.Goals as goal

pub returns : goal.returns
returns c = same-marks c.args.b.0 c.args.self.now.closed c.requires c.row_of.ensures
