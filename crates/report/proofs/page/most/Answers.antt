-- `report::page::most` meets its contract. Assumes nothing.
use Rattle.std.proofs.Common.{sym}
use Rattle.store.specs.laws.Width.{width-large, width_small}
use Rattle.report.specs.laws.Short.{limit-large, limit-small}
use Rattle.report.proofs.page.most.Goals as goal

pub returns-then-words-eq-LARGE_WORDS : goal.returns-then-words-eq-LARGE_WORDS
returns-then-words-eq-LARGE_WORDS c = sym (limit-large (width-large _ c.if-words-eq-LARGE_WORDS.true))

pub returns : goal.returns
returns c = sym (limit-small (width_small _ c.if-words-eq-LARGE_WORDS.false))
