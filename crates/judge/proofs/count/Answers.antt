-- `judge::count` meets its contract. Assumes nothing.
use Rattle.judge.specs.laws.Search.{totals-by}
use Rattle.judge.proofs.count.Goals as goal

pub returns : goal.returns
returns c = totals-by c.prepare-p.ensures
