-- `sheet::reads::count_all` meets its contract: the findings of n rules are counted, and the next rule is known. Assumes nothing.
use Rattle.std.proofs.Common.{[], ◌∙◌, ap, arith}
use Rattle.field.specs.Names.{counts_of}
use Rattle.sheet.specs.laws.Count.{counted-few, counted-more, counted_none, turn_end, turn-next, turn-paused, turn-since}
use Rattle.sheet.specs.laws.Pass.{accepted-start, passing-since}
use Rattle.field.specs.laws.Table.{counts_of-names_of}
use Rattle.sheet.proofs.reads.count_all.Goals as goal

pub next-next-requires : goal.next-next-requires
next-next-requires c =
    record { all = c.requires.0.sheet_said.said; before = []; passing = passing-since _ _ _ _ _ c.requires.1 (rw c.requires.0.with at c.requires.0.sheet_said.ends) c.requires.0.sheet_said.names }

pub loop-next-init : goal.loop-next-init
loop-next-init c = ((λ x o n. turn-since _ c.next-next.ensures c.requires.1 o n (counted_none _ x _)), (λ q e. (omega arith, c.next-next.ensures.inside q e)), omega arith)

pub overflow_add-total : goal.overflow_add-total
overflow_add-total c = let short = (accepted-start _ _ _ c.requires.0.sheet_said.ends).1 in
    let v = c.loop-next.invariant.1 _ c.in-Some.is in
    omega (arith, c.counted-total.ensures, counted-few {m = 512} (omega (arith, c.requires.0.store.fits.items, c.requires.2.wide)) c.start-p.ensures, v.0, v.1, c.loop-next.invariant.2, short)

pub overflow_add-q : goal.overflow_add-q
overflow_add-q c = let w = c.loop-next.invariant.0 _ (rw c.requires.0.with at c.requires.0.sheet_said.ends) c.requires.0.sheet_said.names in
    omega (arith, (turn-paused w _ c.in-Some.is).passing.near, (c.loop-next.invariant.1 _ c.in-Some.is).1, (accepted-start _ _ _ c.requires.0.sheet_said.ends).1)

pub next-next-requires-in-Some : goal.next-next-requires-in-Some
next-next-requires-in-Some c = turn-paused (c.loop-next.invariant.0 _ (rw c.requires.0.with at c.requires.0.sheet_said.ends) c.requires.0.sheet_said.names) _ c.in-Some.is

pub loop-next-preserved : goal.loop-next-preserved
loop-next-preserved c = let z = c.next-next-in-Some.ensures in (
  (λ x o m.
      let w = c.loop-next.invariant.0 x o m in
      turn-next w _ c.in-Some.is z (rw c.counted-total.ensures (counted-more _ w.holds (ap counts_of m ∙ counts_of-names_of _ _ c.requires.0.tidy) w.number c.start-p.ensures))),
  (λ q e. (omega (arith, z.later q e, (c.loop-next.invariant.1 _ c.in-Some.is).0), z.inside q e)),
  omega (arith, c.counted-total.ensures, counted-few {m = 512} (omega (arith, c.requires.0.store.fits.items, c.requires.2.wide)) c.start-p.ensures, c.loop-next.invariant.2),
)

pub returns : goal.returns
returns c = λ x o m. turn_end (c.loop-next.invariant.0 x o m) c.in_default.is
