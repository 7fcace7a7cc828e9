-- `report::page::judge_all` meets its contract: n rules are judged, and the next one is known. Assumes nothing.
use Rattle.std.proofs.Common.{[], arith, ap, refl, ◌∙◌}
use Rattle.field.specs.Names.{counts_of}
use Rattle.sheet.specs.laws.Count.{turn_end, turn-next, turn-paused, turn-since}
use Rattle.rule.specs.laws.Few.{few-findings}
use Rattle.sheet.specs.laws.Pass.{accepted-start, passing-since}
use Rattle.field.specs.laws.Table.{counts_of-names_of}
use Rattle.report.specs.laws.Page.{turn-printed}
use Rattle.report.specs.laws.Printed.{printed-start}
use Rattle.report.proofs.page.judge_all.Goals as goal

pub next-next-requires : goal.next-next-requires
next-next-requires c = let p = c.requires.0.sheet_said in
    record { all = p.said; before = []; passing = passing-since _ _ _ _ _ c.requires.1 (rw c.requires.0.with at p.ends) p.names }

pub loop-next-init : goal.loop-next-init
loop-next-init c = ((λ x o m. turn-since _ c.next-next.ensures c.requires.1 o m (printed-start _ x _ _ 0)), (λ q e. (omega arith, c.next-next.ensures.inside q e)), omega arith, omega arith, omega arith, refl)

pub judge-b-requires : goal.judge-b-requires
judge-b-requires c = let short = (accepted-start _ _ _ c.requires.0.sheet_said.ends).1 in
    let v = c.loop-next.invariant.1 _ c.in-Some.is in
    (record { store = c.requires.0.store; left = c.loop-next.invariant.3; at = omega (arith, c.loop-next.invariant.4); total = omega (arith, v.0, v.1, c.loop-next.invariant.2, short) }, c.requires.2)

pub overflow_add-n : goal.overflow_add-n
overflow_add-n c = let v = c.loop-next.invariant.1 _ c.in-Some.is in omega (arith, v.0, v.1, (accepted-start _ _ _ c.requires.0.sheet_said.ends).1)

pub overflow_add-q : goal.overflow_add-q
overflow_add-q c = let w = c.loop-next.invariant.0 _ (rw c.requires.0.with at c.requires.0.sheet_said.ends) c.requires.0.sheet_said.names in
    omega (arith, (turn-paused w _ c.in-Some.is).passing.near, (c.loop-next.invariant.1 _ c.in-Some.is).1, (accepted-start _ _ _ c.requires.0.sheet_said.ends).1)

pub next-next-requires-in-Some : goal.next-next-requires-in-Some
next-next-requires-in-Some c = turn-paused (c.loop-next.invariant.0 _ (rw c.requires.0.with at c.requires.0.sheet_said.ends) c.requires.0.sheet_said.names) _ c.in-Some.is

pub loop-next-preserved : goal.loop-next-preserved
loop-next-preserved c = let j = c.judge-b.ensures in let z = c.next-next-in-Some.ensures in (
  (λ x o m.
      let w = c.loop-next.invariant.0 x o m in
      turn-next w _ c.in-Some.is z (turn-printed w c.in-Some.is (ap counts_of m ∙ counts_of-names_of _ _ c.args.known.now.tidy) m j)),
  (λ q e. (omega (arith, z.later q e, (c.loop-next.invariant.1 _ c.in-Some.is).0), z.inside q e)),
  omega (arith, j.total, few-findings {m = 512} (omega (arith, c.requires.0.store.fits.items, c.requires.2.wide)) j.findings, c.loop-next.invariant.2),
  omega (arith, j.left, c.loop-next.invariant.3),
  omega (arith, j.short, c.loop-next.invariant.4),
  c.judge-b.auto.room ∙ c.loop-next.invariant.5,
)

pub shape_of-room : goal.shape_of-room
shape_of-room c = c.loop-next.invariant.5

pub returns : goal.returns
returns c = record { printed = λ x o m. turn_end (c.loop-next.invariant.0 x o m) c.in_default.is; near = omega (arith, c.loop-next.invariant.4) }
