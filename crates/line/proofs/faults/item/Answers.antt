-- `line::faults::item` meets its contract. Assumes nothing.
use Rattle.line.specs.laws.Fault.{found-good}
use Rattle.line.proofs.faults.item.Goals as goal

pub old_name-requires : goal.old_name-requires
old_name-requires c = λ h. found-good c.item.ensures h c.args.known.now.tidy.proper.items
