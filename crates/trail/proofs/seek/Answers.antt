-- `trail::seek` meets its contract: no rule from the first place to this one has a finding. Assumes nothing.
use Rattle.std.proofs.Common.{arith}
use Rattle.store.specs.laws.Width.{laid_by}
use Rattle.trail.specs.laws.Trail.{beyond-on, beyond-paused, sought-none, sought-some}
use Rattle.trail.proofs.seek.Goals as goal

pub start-p-requires : goal.start-p-requires
start-p-requires c = (laid_by c.layout_of-at.ensures c.requires.0.long, rw c.layout_of-at.ensures c.requires.0)

pub overflow_add-line : goal.overflow_add-line
overflow_add-line c = let p = beyond-paused c.next.ensures c.in-Some.is c.loop-r.invariant.0 in
    omega (arith, p.passing.near, p.passing.inside, p.passing.short)

pub returns-then-more-gt0 : goal.returns-then-more-gt0
returns-then-more-gt0 c = let z = sought-some _ _ _ _ _ _ _ c.next.ensures _ c.in-Some.is c.layout_of-at.ensures c.start-p.ensures c.requires.0 c.loop-r.invariant.0 c.loop-r.invariant.1 (omega (arith, c.counted-more.ensures, c.if-more-gt0.true)) in
    rw c.counted-more.ensures (record { going = z.going; onward = λ fs b. z.onward fs (c.loop-r.invariant.2 fs b) })

pub loop-r-preserved : goal.loop-r-preserved
loop-r-preserved c = (
  beyond-paused c.next.ensures c.in-Some.is c.loop-r.invariant.0,
  omega (arith, c.loop-r.invariant.1, c.next.ensures.later _ c.in-Some.is),
  (λ fs b. beyond-on _ _ _ _ _ _ _ c.next.ensures _ c.in-Some.is c.layout_of-at.ensures c.start-p.ensures (omega (arith, c.counted-more.ensures, c.if-more-gt0.false)) (c.loop-r.invariant.2 fs b)),
)

pub returns : goal.returns
returns c = let z = sought-none _ _ _ _ _ _ _ c.next.ensures c.in_default.is c.requires.0 c.loop-r.invariant.0 c.loop-r.invariant.1 c.ended.ensures in
    record { going = z.going; onward = λ fs b. z.onward fs (c.loop-r.invariant.2 fs b) }
