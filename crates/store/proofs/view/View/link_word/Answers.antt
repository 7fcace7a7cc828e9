-- `store::view::View::link_word` meets its contract: the word is read where the layout has it. Assumes nothing.
use Rattle.std.proofs.Common.{refl}
use Rattle.store.specs.laws.Look.{link-word}
use Rattle.store.proofs.view.View.link_word.Goals as goal

pub returns : goal.returns
returns c = link-word c.args.r.0 c.args.a.0 c.args.self.now.closed c.requires.1 c.link_row.ensures.0 c.requires.2 refl
