-- `store::size::sized` meets its contract. Assumes nothing.
use Rattle.store.specs.laws.Width.{width-wide}
use Rattle.store.proofs.size.sized.Goals as goal

pub fits-requires : goal.fits-requires
fits-requires c = rw c.width.ensures (width-wide _)
