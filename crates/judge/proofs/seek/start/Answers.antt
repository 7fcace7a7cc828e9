-- `judge::seek::start` meets its contract: the plan has as many findings as were counted, and the cursor is at the first. Assumes nothing.
use Rattle.judge.specs.laws.Search.{starts}
use Rattle.judge.proofs.seek.start.Goals as goal

pub returns : goal.returns
returns c = rw (c.search_at.ensures, c.min.ensures) (starts c.args.number c.args.room c.requires.0 c.requires.1 c.plan-plan.ensures c.count-total.ensures c.first-cursor.ensures)
