-- `expression::tally::count_word` meets its contract. The loop's invariant is the contract for the words above `j`. Assumes nothing.
use Rattle.std.specs.Prelude.{◌≡◌, ◌+◌, ◌-◌}
use Rattle.std.proofs.Common.{arith}
use Rattle.expression.specs.laws.Tally.{counted-done, counted-more}
use Rattle.expression.proofs.tally.count_word.Goals as goal

pub loop-j-preserved : goal.loop-j-preserved
loop-j-preserved c = let up : c.loop-j.j - 1 + 1 ≡ c.loop-j.j = omega arith in
    rw up (counted-more c.loop-j.invariant (omega arith) (omega (arith, c.loop-j.invariant.len)))

pub returns : goal.returns
returns c = counted-done c.loop-j.invariant (omega arith)
