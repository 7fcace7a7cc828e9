-- `why::gather::reasoned` meets its contract. Assumes nothing.
use Rattle.why.specs.laws.Gather.{gathered-reason, gathered-sought}
use Rattle.why.proofs.gather.reasoned.Goals as goal

pub explain-requires : goal.explain-requires
explain-requires c = gathered-sought c.gather-n.ensures c.requires.0 c.requires.1 c.requires.2 c.requires.3

pub returns : goal.returns
returns c = gathered-reason c.gather-n.ensures c.explain.ensures
