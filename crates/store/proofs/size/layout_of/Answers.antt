-- `store::size::layout_of` meets its contract. Assumes nothing.
use Rattle.store.specs.laws.Width.{width-wide}
use Rattle.store.proofs.size.layout_of.Goals as goal

pub layout-requires : goal.layout-requires
layout-requires c = rw c.width.ensures (width-wide _)
