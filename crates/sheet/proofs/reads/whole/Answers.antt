-- `sheet::reads::whole` meets its contract. Assumes nothing.
use Rattle.sheet.specs.laws.Count.{opens-held, opens-judges, whole-accepted, whole-refused, whole-size}
use Rattle.field.specs.laws.Declared.{none-tidy}
use Rattle.store.specs.Layout.{size}
use Rattle.store.specs.laws.Laid.{laid_of}
use Rattle.store.specs.laws.Width.{laid_by, width-wide}
use Rattle.sheet.specs.laws.Width.{width_some}
use Rattle.std.proofs.Common.{sym, ap, ◌∙◌, arith}
use Rattle.store.specs.declared.Layout.{Layout}
use Rattle.sheet.proofs.reads.whole.Goals as goal

pub returns-then-not-long : goal.returns-then-not-long
returns-then-not-long c = whole-size _ _ _ _ _ (rw c.none.ensures (none-tidy _ _ (omega (arith, c.requires)))) (c.long.ensures.fails c.if-not-long.true)

pub fill-e-requires : goal.fill-e-requires
fill-e-requires c = let e = c.layout_of-at.ensures in
    (rw e c.requires, laid_by e (c.long.ensures.holds c.if-not-long.false), rw e (width_some _))

pub count_all-total-requires : goal.count_all-total-requires
count_all-total-requires c = (opens-judges c.fill-e.ensures c.in_default.is, c.fill-e.ensures.start _ c.in_default.is, laid_of c.layout_of-at.ensures ((opens-held c.fill-e.ensures c.in_default.is).store.long ∙ ap size (ap (λ (at : Layout). at.width) c.layout_of-at.ensures)) (width-wide _))

pub returns-in-Err : goal.returns-in-Err
returns-in-Err c = whole-refused (ap (λ (at : Layout). at.width) c.layout_of-at.ensures) (c.long.ensures.holds c.if-not-long.false ∙ sym (ap size (ap (λ (at : Layout). at.width) c.layout_of-at.ensures))) c.fill-e.ensures c.in-Err.is

pub returns : goal.returns
returns c = whole-accepted c.fill-e.ensures c.in_default.is (ap (λ (at : Layout). at.width) c.layout_of-at.ensures) (c.long.ensures.holds c.if-not-long.false ∙ sym (ap size (ap (λ (at : Layout). at.width) c.layout_of-at.ensures))) c.count_all-total.ensures
