-- `store::view::View::add_links` meets its contract: the row of the links is taken from where the layout has it. Assumes nothing.
use Rattle.std.proofs.Common.{◌∙◌}
use Rattle.store.specs.laws.Look.{links-taken}
use Rattle.store.proofs.view.View.add_links.Goals as goal

pub returns : goal.returns
returns c = (c.take_on.ensures.mapped.len ∙ c.requires.2, links-taken c.args.r.0 c.args.a.0 c.args.self.now.closed c.requires.1 c.link_row.ensures.0 c.take_on.ensures)
