-- `report::page::print_ended` meets its contract. Assumes nothing.
use Rattle.report.specs.laws.Page.{page-accepted, page-judges, page-refused}
use Rattle.report.proofs.page.print_ended.Goals as goal

pub returns-in-Err : goal.returns-in-Err
returns-in-Err c = page-refused c.requires.0 c.in-Err.is c.refused.ensures.0

pub judge_all-b-requires : goal.judge_all-b-requires
judge_all-b-requires c = (page-judges c.requires.0 c.in_default.is, c.requires.0.opens.start _ c.in_default.is, c.requires.1)

pub returns : goal.returns
returns c = page-accepted c.requires.0 c.in_default.is (λ i. (c.type_inv.words i).fits) c.judge_all-b.ensures c.total.ensures.0
