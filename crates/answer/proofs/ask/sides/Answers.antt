-- `answer::ask::sides` meets its contract. Assumes nothing.
use Rattle.std.proofs.Common.{arith}
use Rattle.sheet.specs.laws.Count.{turn_end, turn-next, turn-paused, turn-start}
use Rattle.sheet.specs.laws.Pass.{accepted-start}
use Rattle.answer.specs.laws.Asked.{none-all, none-start, none-turn, some_turn}
use Rattle.answer.proofs.ask.sides.Goals as goal

pub loop-next-init : goal.loop-next-init
loop-next-init c = ((λ W x o m. turn-start W c.first-next.ensures o m (none-start _ _ _ _ _ _)), (λ q e. (omega arith, c.first-next.ensures.inside q e)))

pub returns-in-Some-sides_if : goal.returns-in-Some-sides_if
returns-in-Some-sides_if c = λ W x o m. some_turn _ W c.in-Some-sides_if.s (c.loop-next.invariant.0 W x o m) c.in-Some.is c.is_number.ensures o m (rw c.in-Some-sides_if.is at c.sides_if.ensures)

pub overflow_add-n : goal.overflow_add-n
overflow_add-n c = let v = c.loop-next.invariant.1 _ c.in-Some.is in omega (arith, v.0, v.1, (accepted-start _ _ _ c.requires.0.sheet_said.ends).1)

pub overflow_add-q : goal.overflow_add-q
overflow_add-q c = omega (arith, (turn-paused (c.loop-next.invariant.0 c.requires.0.sheet_said.width c.requires.0.sheet_said.said c.requires.0.sheet_said.ends c.requires.0.sheet_said.names) _ c.in-Some.is).passing.near, (c.loop-next.invariant.1 _ c.in-Some.is).1, (accepted-start _ _ _ c.requires.0.sheet_said.ends).1)

pub next-next-requires : goal.next-next-requires
next-next-requires c = turn-paused (c.loop-next.invariant.0 c.requires.0.sheet_said.width c.requires.0.sheet_said.said c.requires.0.sheet_said.ends c.requires.0.sheet_said.names) _ c.in-Some.is

pub loop-next-preserved : goal.loop-next-preserved
loop-next-preserved c = let z = c.next-next.ensures in (
  (λ W x o m. turn-next (c.loop-next.invariant.0 W x o m) _ c.in-Some.is z (none-turn _ W (c.loop-next.invariant.0 W x o m) c.in-Some.is c.is_number.ensures o m (rw c.in_default-sides_if.is at c.sides_if.ensures))),
  (λ q e. (omega (arith, z.later q e, (c.loop-next.invariant.1 _ c.in-Some.is).0), z.inside q e)),
)

pub returns : goal.returns
returns c = λ W x o m. none-all _ _ _ _ _ _ (turn_end (c.loop-next.invariant.0 W x o m) c.in_default.is)
