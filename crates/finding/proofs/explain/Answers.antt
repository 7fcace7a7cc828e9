-- `finding::explain` meets its contract. Assumes nothing.
use Rattle.std.proofs.Common.{arith}
use Rattle.sheet.specs.laws.Width.{numbers-large, numbers-small}
use Rattle.why.specs.laws.Gather.{lent-large, lent-small}
use Rattle.finding.proofs.explain.Goals as goal

pub explain_with-requires : goal.explain_with-requires
explain_with-requires c = (numbers-large _, omega arith, lent-large _, omega arith)

pub explain_with-requires-2 : goal.explain_with-requires-2
explain_with-requires-2 c = (numbers-small _ c.if-words-eq-LARGE_WORDS.false, omega arith, lent-small _ c.if-words-eq-LARGE_WORDS.false, omega arith)
