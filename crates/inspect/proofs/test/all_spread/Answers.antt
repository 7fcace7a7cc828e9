-- `inspect::test::all_spread` meets its contract. Assumes nothing.
use Rattle.std.proofs.Common.{arith}
use Rattle.logic.specs.laws.Decides.{decides-no}
use Rattle.inspect.proofs.test.all_spread.Goals as goal

pub returns-then-not-spreads : goal.returns-then-not-spreads
returns-then-not-spreads c = decides-no (λ f. c.spreads.ensures.fails c.if-not-spreads.true (f c.loop-x.x (omega arith)))
