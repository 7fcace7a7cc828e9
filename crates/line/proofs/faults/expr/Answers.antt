-- `line::faults::expr` meets its contract. Assumes nothing.
use Rattle.field.specs.laws.Right.{concept-name-good}
use Rattle.line.specs.laws.Fault.{found-good}
use Rattle.line.proofs.faults.expr.Goals as goal

pub old_name-requires : goal.old_name-requires
old_name-requires c = λ h. (concept-name-good _ (found-good c.concept.ensures h c.args.known.now.tidy.proper.concepts)).0
