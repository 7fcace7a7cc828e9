-- `inspect::test::word_includes` meets its contract. Assumes nothing.
use Rattle.std.proofs.Common.{arith, sym, ◌∙◌}
use borrow.Author.Count.{below_more}
use Rattle.logic.specs.laws.Decides.{decides-no}
use Rattle.row.specs.laws.Bit.{hasb-has, hasb-not}
use Rattle.inspect.specs.laws.Test.{part-word, word-part}
use Rattle.inspect.proofs.test.word_includes.Goals.{else-on-via-then-on+else-s-from, else-on-via-else-on}
use Rattle.inspect.proofs.test.word_includes.Goals as goal

pub returns-then-s-from : goal.returns-then-s-from
returns-then-s-from c = decides-no (λ f. c.if-s-from.true (word-part _ _ (c.type_inv.s _).fits c.ranges.z.fits (f c.loop-y.y (omega arith) (hasb-has _ _ (sym c.has_bit-on.ensures ∙ c.if-on.true)))))

pub loop-y-preserved : goal.loop-y-preserved
loop-y-preserved c = below_more _ _ c.loop-y.invariant (elim c.else-on.branch [ else-on-via-then-on+else-s-from w ↦ (λ x. part-word _ _ w.if-s-from.false) | else-on-via-else-on w ↦ (λ x. absurd (hasb-not _ _ (sym c.has_bit-on.ensures ∙ w.if-on.false) x)) ])
