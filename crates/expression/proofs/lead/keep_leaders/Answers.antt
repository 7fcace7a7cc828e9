-- `expression::lead::keep_leaders` meets its contract. The loop's invariant: of the items below `b`, the next item of the row, those are left that lead, and no other is the same as one of them. Assumes nothing.
use Rattle.std.proofs.Common.{arith, ◌∙◌}
use Rattle.expression.specs.laws.Lead.{kept-done, kept_more, kept-none, kept-skip}
use Rattle.expression.proofs.lead.keep_leaders.Goals as goal

pub loop-b-init : goal.loop-b-init
loop-b-init c = (c.next-b.ensures.within, c.requires.0, kept-skip c.args.view.now.closed (kept-none c.args.r.now c.requires.1) (omega arith) (λ x l h. c.next-b.ensures.least x l h), c.next-b.ensures.found)

pub loop-b-preserved : goal.loop-b-preserved
loop-b-preserved c = let marked = c.mark.ensures in
    let dropped = c.drop_same.ensures in
    let more = kept_more c.args.view.now.closed c.loop-b.invariant.2 (c.loop-b.invariant.3 (omega arith)) dropped.1 marked in
    (c.next-b-in-loop-b.ensures.within, marked.len ∙ dropped.0, kept-skip c.args.view.now.closed more c.next-b-in-loop-b.ensures.from (λ x l h. c.next-b-in-loop-b.ensures.least x l h), c.next-b-in-loop-b.ensures.found)

pub returns : goal.returns
returns c = (c.loop-b.invariant.1, kept-done c.loop-b.invariant.2 (omega arith))
