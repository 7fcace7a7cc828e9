-- `report::page::page_with` meets its contract. Assumes nothing.
use Rattle.std.proofs.Common.{◌∙◌}
use Rattle.store.specs.laws.Laid.{laid_of}
use Rattle.store.specs.laws.Width.{laid_by, width-wide}
use Rattle.sheet.specs.laws.Width.{width_some}
use Rattle.report.specs.laws.Page.{page-read, page-size}
use Rattle.report.proofs.page.page_with.Goals as goal

pub returns-then-not-long : goal.returns-then-not-long
returns-then-not-long c = page-size (c.long.ensures.fails c.if-not-long.true) c.refused.ensures.0

pub fill-e-requires : goal.fill-e-requires
fill-e-requires c = let e = c.layout_of-at.ensures in
    (rw e c.requires, laid_by e (c.long.ensures.holds c.if-not-long.false), rw e (width_some _))

pub print_ended-requires : goal.print_ended-requires
print_ended-requires c = (record { store = _; opens = c.fill-e.ensures }, laid_of c.layout_of-at.ensures (c.fill-e.auto.words ∙ c.long.ensures.holds c.if-not-long.false) (width-wide _))

pub returns : goal.returns
returns c = let e = c.layout_of-at.ensures in
    page-read (c.long.ensures.holds c.if-not-long.false) (λ i. (c.slice_known-4-1.given i).fits) (rw e at c.fill-e.ensures) (rw e at c.print_ended.ensures)
