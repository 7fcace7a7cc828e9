-- `store::view::View::join_links` meets its contract: the row of the links is taken from where the layout has it. Assumes nothing.
use Rattle.store.specs.laws.Look.{links-joined}
use Rattle.store.proofs.view.View.join_links.Goals as goal

pub returns : goal.returns
returns c = links-joined c.args.r.0 c.args.a.0 c.args.self.now.closed c.requires.1 c.link_row.ensures.0 c.together.ensures
