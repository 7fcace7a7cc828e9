-- `judge::seek::step` meets its contract. Assumes nothing.
use Rattle.judge.specs.laws.Search.{stepped}
use Rattle.judge.proofs.seek.step.Goals as goal

pub returns : goal.returns
returns c = rw c.search_at.ensures (stepped c.requires c.advance-next.ensures)
