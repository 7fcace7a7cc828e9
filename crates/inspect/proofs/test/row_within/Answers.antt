-- `inspect::test::row_within` meets its contract, word by word. Assumes nothing.
use Rattle.std.proofs.Common.{arith}
use Rattle.logic.specs.laws.Decides.{decides-no}
use Rattle.inspect.specs.laws.Test.{RowPart-more, word-part}
use Rattle.inspect.proofs.test.row_within.Goals as goal

pub returns-then-s-a : goal.returns-then-s-a
returns-then-s-a c = decides-no (λ f. c.if-s-a.true (word-part _ _ (c.type_inv.s _).fits (c.type_inv.s _).fits (f c.loop-h.h (omega arith))))

pub loop-h-preserved : goal.loop-h-preserved
loop-h-preserved c = RowPart-more _ _ _ _ c.loop-h.invariant c.if-s-a.false
