-- `finding::rule_at` meets its contract. Assumes nothing.
use Rattle.std.proofs.Common.{[], ◌∷◌, arith, length-append, sym, ◌∙◌}
use Rattle.sheet.specs.laws.Count.{turn_end, turn-next, turn-paused, turn-rules, turn-start}
use Rattle.sheet.specs.laws.Pass.{accepted-start}
use Rattle.sheet.specs.own.Pass.{found_rule}
use Rattle.finding.proofs.rule_at.Goals as goal

pub loop-next-init : goal.loop-next-init
loop-next-init c = ((λ W x o m. turn-start W c.first-next.ensures o m (omega arith)), (λ q e. (omega arith, c.first-next.ensures.inside q e)), omega arith)

pub returns-then-n-k : goal.returns-then-n-k
returns-then-n-k c = λ W x o m.
    let w = c.loop-next.invariant.0 W x o m in
    let z = turn-rules w c.in-Some.q c.in-Some.is in
    record { before = w.done; line = c.in-Some.q.line; after = z.0; is = z.1; place = sym c.if-n-k.true ∙ w.number }

pub overflow_add-n : goal.overflow_add-n
overflow_add-n c = let v = c.loop-next.invariant.1 _ c.in-Some.is in omega (arith, v.0, v.1, (accepted-start _ _ _ c.requires.ends).1)

pub overflow_add-q : goal.overflow_add-q
overflow_add-q c = omega (arith, (turn-paused (c.loop-next.invariant.0 _ _ c.requires.ends c.requires.names) _ c.in-Some.is).passing.near, (c.loop-next.invariant.1 _ c.in-Some.is).1, (accepted-start _ _ _ c.requires.ends).1)

pub next-next-requires : goal.next-next-requires
next-next-requires c = turn-paused (c.loop-next.invariant.0 _ _ c.requires.ends c.requires.names) _ c.in-Some.is

pub loop-next-preserved : goal.loop-next-preserved
loop-next-preserved c = let z = c.next-next.ensures in (
  (λ W x o m.
      let w = c.loop-next.invariant.0 W x o m in
      turn-next w _ c.in-Some.is z (omega (arith, w.number, length-append w.done (found_rule c.in-Some.q ∷ []), c.loop-next.invariant.2, c.if-n-k.false))),
  (λ q e. (omega (arith, z.later q e, (c.loop-next.invariant.1 _ c.in-Some.is).0), z.inside q e)),
  omega (arith, c.loop-next.invariant.2, c.if-n-k.false),
)

pub returns : goal.returns
returns c = λ W x o m. turn_end (c.loop-next.invariant.0 W x o m) c.in_default.is
