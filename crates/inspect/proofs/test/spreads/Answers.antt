-- `inspect::test::spreads` meets its contract. Assumes nothing.
use Rattle.std.proofs.Common.{arith, sym, ◌∙◌}
use Rattle.logic.specs.laws.Decides.{decides-no}
use Rattle.row.specs.laws.Bit.{hasb-has}
use Rattle.inspect.proofs.test.spreads.Goals as goal

pub returns-then-not-blocks_within : goal.returns-then-not-blocks_within
returns-then-not-blocks_within c = decides-no (λ f. c.blocks_within.ensures.fails c.if-not-blocks_within.true (f c.loop-y.y (omega arith) (hasb-has _ _ (sym c.has_bit-on.ensures ∙ c.if-on.true))))
