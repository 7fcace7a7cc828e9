-- `row::pick::next` meets its contract. Assumes nothing.
use Rattle.std.specs.Prelude.{◌*◌}
use Rattle.std.proofs.Common.{arith}
use Rattle.row.specs.laws.Pick.{none-past, next_here, next-none}
use Rattle.row.proofs.pick.next.Goals as goal

pub returns-then-k-lt64 : goal.returns-then-k-lt64
returns-then-k-lt64 c =
    next_here c.args.r.now c.args.x c.loop-h.h c.saturating_sub.result c.args.count _ _ (λ z h l. c.loop-h.invariant z h (omega arith)) c.lowest-k.ensures (omega arith) (omega arith) (omega arith) (omega arith)

pub loop-h-preserved : goal.loop-h-preserved
loop-h-preserved c =
    λ z h l. none-past c.args.r.now c.args.x c.loop-h.h c.saturating_sub.result _ 64 (λ y b k. c.loop-h.invariant y b (omega arith)) c.lowest-k.ensures c.if-k-lt64.false (omega arith) z h (omega arith)

pub returns : goal.returns
returns c = next-none _ _ (c.loop-h.h * 64) _ c.loop-h.invariant (omega arith) (omega arith)
