-- `expression::tally::tally_word` meets its contract. The loop's invariant: the items below `b`, the next item of the row, are counted. Assumes nothing.
use Rattle.std.proofs.Common.{arith}
use Rattle.expression.specs.laws.Tally.{tallied-done, tallied-more, tallied-none}
use Rattle.expression.proofs.tally.tally_word.Goals as goal

pub loop-b-init : goal.loop-b-init
loop-b-init c = (c.next-b.ensures.within, tallied-none c.args.p.now c.blank-t.ensures (λ x l. c.next-b.ensures.least x (omega arith) l), c.next-b.ensures.found)

pub loop-b-preserved : goal.loop-b-preserved
loop-b-preserved c = let more = tallied-more c.args.p.now c.loop-b.invariant.1 (c.loop-b.invariant.2 (omega arith)) c.link_word-links.ensures c.count_word.ensures (omega (arith, c.next-b-in-loop-b.ensures.from)) (λ x l h. c.next-b-in-loop-b.ensures.least x l h) in
    (c.next-b-in-loop-b.ensures.within, more, c.next-b-in-loop-b.ensures.found)

pub returns : goal.returns
returns c = tallied-done c.loop-b.invariant.1 (omega arith)
