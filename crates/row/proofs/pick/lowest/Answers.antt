-- `row::pick::lowest` meets its contract. Assumes nothing.
use Rattle.row.specs.laws.Pick.{lowest-is}
use Rattle.row.proofs.pick.lowest.Goals as goal

pub returns : goal.returns
returns c = lowest-is _ _
