-- `report::page::page_in` meets its contract. Assumes nothing.
use Rattle.std.proofs.Common.{arith}
use Rattle.sheet.specs.laws.Width.{numbers-large, numbers-small}
use Rattle.report.proofs.page.page_in.Goals as goal

pub page_of-requires : goal.page_of-requires
page_of-requires c = (numbers-large _, omega arith)

pub page_of-requires-2 : goal.page_of-requires-2
page_of-requires-2 c = (numbers-small _ c.if-words-eq-LARGE_WORDS.false, omega arith)
