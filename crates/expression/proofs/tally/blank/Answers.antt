-- `expression::tally::blank` meets its contract. Assumes nothing.
use Rattle.expression.specs.laws.Tally.{blank-set}
use Rattle.expression.proofs.tally.blank.Goals as goal

pub returns : goal.returns
returns c = blank-set
