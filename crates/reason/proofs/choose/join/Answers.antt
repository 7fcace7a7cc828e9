-- `reason::choose::join` meets its contract. Assumes nothing.
use Rattle.reason.specs.laws.Join.{joined_by}
use Rattle.reason.proofs.choose.join.Goals as goal

pub returns : goal.returns
returns c = joined_by c.requires c.row_or.ensures c.mark.ensures
