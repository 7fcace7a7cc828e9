-- `report::page::page` meets its contract. Assumes nothing.
use Rattle.std.proofs.Common.{arith, refl, ℕ, ◌∙◌}
use Rattle.std.proofs.lemmas.List.{length-replicate}
use Rattle.store.specs.Layout.{size, small}
use Rattle.store.specs.laws.Laid.{laid_of}
use Rattle.report.proofs.page.page.Goals as goal

pub fill_blank-e-requires : goal.fill_blank-e-requires
fill_blank-e-requires c = let e = c.layout-at.ensures in (rw e refl, rw e (omega arith), laid_of e (length-replicate {A = ℕ} (size small) 0) (omega arith), rw e (omega arith))

pub print_ended-requires : goal.print_ended-requires
print_ended-requires c = (record { store = _; opens = c.fill_blank-e.ensures }, laid_of c.layout-at.ensures (c.fill_blank-e.auto.words ∙ length-replicate {A = ℕ} (size small) 0) (omega arith))

pub returns : goal.returns
returns c = rw c.layout-at.ensures at c.print_ended.ensures
