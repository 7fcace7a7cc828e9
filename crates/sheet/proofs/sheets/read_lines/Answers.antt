-- `sheet::sheets::read_lines` meets its contract. Assumes nothing.
use Rattle.std.proofs.Common.{arith, rules, refl, ap, ◌∙◌, ℕ, ◌-◌, length}
use Rattle.text.specs.own.Split.{part_of}
use Rattle.text.specs.laws.Split.{end_ge, end-le}
use Rattle.field.specs.laws.Looked.{looked}
use Rattle.store.specs.laws.Laid.{laid-is, laid_of}
use Rattle.line.specs.own.Number.{found}
use Rattle.line.specs.laws.Number.{number_some}
use Rattle.sheet.specs.laws.Lines.{reads-comes, reads_end, reads_on, reads-start, reads-stop}
use Rattle.sheet.proofs.sheets.read_lines.Goals as goal

pub loop-at-init : goal.loop-at-init
loop-at-init c = (rw (c.blank-kept.ensures, c.requires.1) (reads-start _ _ _ _ _ c.requires.4 c.requires.2 refl c.requires.3), refl, refl, search rules)

pub slice_bounds-read-count : goal.slice_bounds-read-count
slice_bounds-read-count c = omega (arith, c.look_from-s.ensures.end, end_ge 10 c.args.sheet.now c.loop-at.at)

pub slice_bounds-read-start : goal.slice_bounds-read-start
slice_bounds-read-start c = omega (arith, c.look_from-s.ensures.end, end_ge 10 c.args.sheet.now c.loop-at.at)

pub slice_bounds-read-end : goal.slice_bounds-read-end
slice_bounds-read-end c = omega (arith, c.look_from-s.ensures.end, end-le 10 c.args.sheet.now c.loop-at.at (omega (arith, c.loop-at-test.true)))

pub read-r-requires : goal.read-r-requires
read-r-requires c = let is = ap (λ (k : ℕ). part_of c.args.sheet.now c.loop-at.at (k - c.loop-at.at)) c.look_from-s.ensures.end in
    (reads-comes c.requires.0 c.loop-at.invariant.0 _ (omega (arith, c.loop-at-test.true)) is (rw is c.look_from-s.ensures.good) (λ short. rw is (looked c.look_from-s.ensures c.min-n.result (omega (arith, c.min-n.ensures, c.loop-at.invariant.3)) (omega (arith, short, ap length is, c.loop-at.invariant.3)))), laid_of (laid-is c.requires.5) c.loop-at.invariant.0.stands.long c.requires.5.wide)

pub returns-in-Err : goal.returns-in-Err
returns-in-Err c = let is = ap (λ (k : ℕ). part_of c.args.sheet.now c.loop-at.at (k - c.loop-at.at)) c.look_from-s.ensures.end in
    rw c.refused.ensures (reads-stop c.requires.0 c.loop-at.invariant.0 _ _ _ (omega (arith, c.loop-at-test.true)) c.look_from-s.ensures.end is {k' = c.read-r.result.kept} (rw c.in-Err.is at c.read-r.ensures) (λ z. omega (arith, number_some c.in-Err.fault, z)))

pub overflow_add-at : goal.overflow_add-at
overflow_add-at c = omega (arith, c.look_from-s.ensures.end, end-le 10 c.args.sheet.now c.loop-at.at (omega (arith, c.loop-at-test.true)), c.requires.0)

pub loop-at-smaller : goal.loop-at-smaller
loop-at-smaller c = omega (arith, c.look_from-s.ensures.end, end_ge 10 c.args.sheet.now c.loop-at.at, c.loop-at-test.true)

pub loop-at-preserved : goal.loop-at-preserved
loop-at-preserved c = let is = ap (λ (k : ℕ). part_of c.args.sheet.now c.loop-at.at (k - c.loop-at.at)) c.look_from-s.ensures.end in
    (reads_on c.requires.0 c.loop-at.invariant.0 _ _ _ (omega (arith, c.loop-at-test.true)) c.look_from-s.ensures.end is {k' = c.read-r.result.kept} c.read-r.ensures (ap found c.in_default.is) c.start_from-start.ensures, c.read-r.auto.words ∙ c.loop-at.invariant.1, c.read-r.auto.names ∙ c.loop-at.invariant.2, c.look_from-s.auto.ends ∙ c.loop-at.invariant.3)

pub returns : goal.returns
returns c = reads_end c.requires.0 c.loop-at.invariant.0 (omega (arith, c.loop-at-test.false))
