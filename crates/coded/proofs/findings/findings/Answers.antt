-- `coded::findings::findings` meets its contract: what is written are the first findings of the rule that the words say. Assumes nothing.
use Rattle.std.proofs.Common.{rules}
use Rattle.coded.specs.laws.Findings.{list-by, total-fits}
use Rattle.coded.proofs.findings.findings.Goals as goal

pub signed-requires : goal.signed-requires
signed-requires c = total-fits c.prepare-p.ensures.opens

pub returns : goal.returns
returns c = list-by (rw c.rule_of-u.ensures at c.prepare-p.ensures) c.write.ensures (search rules)
