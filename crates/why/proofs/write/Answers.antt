-- `why::write` meets its contract: the lines of those marked of the n statements passed are listed. Assumes nothing.
use Rattle.std.proofs.Common.{arith, refl, ◌∙◌}
use Rattle.why.specs.own.Stating.{found_statement}
use Rattle.why.specs.laws.Few.{turn-few}
use Rattle.why.specs.laws.Listed.{put-le, put-length, putting-listed, putting-more, putting-none}
use Rattle.why.specs.laws.Stating.{turn_end, turn-next, turn-passing, turn-paused, turn-start}
use Rattle.why.proofs.write.Goals as goal

pub loop-q-init : goal.loop-q-init
loop-q-init c = ((λ W x o m. turn-start W c.second_line-at.ensures o m putting-none), omega arith, omega arith, refl)

pub next-requires : goal.next-requires
next-requires c = turn-paused (c.loop-q.invariant.0 _ _ c.requires.ends c.requires.names)

pub has-requires : goal.has-requires
has-requires c = turn-few _ (c.loop-q.invariant.0 _ _ c.requires.ends c.requires.names) (rw c.in-Some.is at c.next.ensures) c.requires.ends

pub put-total-requires : goal.put-total-requires
put-total-requires c = let w = c.loop-q.invariant.0 _ _ c.requires.ends c.requires.names in
    let p = turn-passing w (rw c.in-Some.is at c.next.ensures) in
    (omega (arith, c.loop-q.invariant.1, c.loop-q.invariant.2, w.passing.inside, p.short), omega (arith, p.near, p.inside, p.short))

pub overflow_add-line : goal.overflow_add-line
overflow_add-line c = let p = turn-passing (c.loop-q.invariant.0 _ _ c.requires.ends c.requires.names) (rw c.in-Some.is at c.next.ensures) in
    omega (arith, p.near, p.inside, p.short)

pub loop-q-smaller : goal.loop-q-smaller
loop-q-smaller c = let p = turn-passing (c.loop-q.invariant.0 _ _ c.requires.ends c.requires.names) (rw c.in-Some.is at c.next.ensures) in
    omega (arith, p.inside, c.next.ensures.later _ c.in-Some.is)

pub loop-q-preserved : goal.loop-q-preserved
loop-q-preserved c = let later = c.next.ensures.later _ c.in-Some.is in (
  (λ W x o m.
      let w = c.loop-q.invariant.0 W x o m in
      turn-next w (rw c.in-Some.is at c.next.ensures) (putting-more (found_statement c.in-Some.q) w.number c.has.ensures w.holds c.put-total.ensures)),
  omega (arith, later, c.loop-q.invariant.1),
  omega (arith, put-le c.put-total.ensures, c.loop-q.invariant.2),
  put-length c.put-total.ensures ∙ c.loop-q.invariant.3,
)

pub returns : goal.returns
returns c = let z = rw c.in_default.is at c.next.ensures in
    record { listed = λ W x o m. putting-listed (turn_end (c.loop-q.invariant.0 W x o m) z); total = λ W x o m. (turn_end (c.loop-q.invariant.0 W x o m) z).total }
