-- `store::view::View::links_common` meets its contract: the row of the links is read where the layout has it. Assumes nothing.
use Rattle.store.specs.laws.Look.{links-number}
use Rattle.store.proofs.view.View.links_common.Goals as goal

pub returns : goal.returns
returns c = links-number c.args.r.0 c.args.a.0 c.args.self.now.closed c.requires.1 c.link_row.ensures.0 c.common.ensures
