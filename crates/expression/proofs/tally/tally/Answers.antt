-- `expression::tally::tally` meets its contract. The loop's invariant is the contract for the items of the words below `h`. Assumes nothing.
use Rattle.std.proofs.Common.{arith, length-set, rules, ◌∙◌}
use Rattle.row.specs.laws.Marks.{words-done}
use Rattle.expression.specs.laws.Tally.{articles-more}
use Rattle.expression.proofs.tally.tally.Goals as goal

pub keep_leaders-requires : goal.keep_leaders-requires
keep_leaders-requires c = (search rules, λ x h. (c.within-lead.ensures.sound x h).0)

pub loop-h-preserved : goal.loop-h-preserved
loop-h-preserved c = let within = c.within-lead in
    let more = articles-more c.args.p.now within.result c.args.view.now.closed c.keep_leaders.ensures.1 within.ensures c.loop-h.invariant.1 (omega (arith, c.args.view.now.laid.wide, c.loop-h.invariant.0)) c.requires.1 c.tally_word.ensures in
    (length-set c.loop-h.r _ _ ∙ c.loop-h.invariant.0, more)

pub returns : goal.returns
returns c = words-done c.loop-h.invariant.1 (omega (arith, c.args.view.now.closed.fits.items))
