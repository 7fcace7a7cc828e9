-- `store::view::View::drop_same` meets its contract: the row of "same" is taken off from where the layout has it. Assumes nothing.
use Rattle.std.proofs.Common.{◌∙◌}
use Rattle.store.specs.laws.Look.{same-dropped}
use Rattle.store.proofs.view.View.drop_same.Goals as goal

pub returns : goal.returns
returns c = (c.take_off.ensures.mapped.len ∙ c.requires.1, same-dropped c.args.b.0 c.args.self.now.closed c.requires.0 c.take_off.ensures)
