-- `listing::findings` meets its contract. Assumes nothing.
use Rattle.listing.specs.laws.Lists.{lists-by}
use Rattle.listing.proofs.findings.Goals as goal

pub returns : goal.returns
returns c = lists-by c.prepare-p.ensures c.write.ensures
