-- `sheet::read` meets its contract. Assumes nothing.
use Rattle.std.proofs.Common.{arith}
use Rattle.sheet.specs.laws.Width.{numbers-large, numbers-small}
use Rattle.sheet.proofs.read.Goals as goal

pub read_with-requires : goal.read_with-requires
read_with-requires c = (numbers-large _, omega arith)

pub read_with-requires-else-words-eq-LARGE_WORDS : goal.read_with-requires-else-words-eq-LARGE_WORDS
read_with-requires-else-words-eq-LARGE_WORDS c = (numbers-small _ c.if-words-eq-LARGE_WORDS.false, omega arith)
