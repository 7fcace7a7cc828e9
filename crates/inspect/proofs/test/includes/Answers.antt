-- `inspect::test::includes` meets its contract. Assumes nothing.
use Rattle.std.proofs.Common.{arith, sym, ◌∙◌}
use Rattle.logic.specs.laws.Decides.{decides-no}
use Rattle.row.specs.laws.Bit.{hasb-has, hasb-not}
use Rattle.inspect.specs.laws.Test.{includes-more}
use Rattle.inspect.proofs.test.includes.Goals.{else-on-via-then-on+else-not-row_within, else-on-via-else-on}
use Rattle.inspect.proofs.test.includes.Goals as goal

pub returns-then-not-row_within : goal.returns-then-not-row_within
returns-then-not-row_within c = decides-no (λ f. c.row_within.ensures.fails c.if-not-row_within.true (f c.loop-y.y (omega arith) (hasb-has _ _ (sym c.has_bit-on.ensures ∙ c.if-on.true))))

pub loop-y-preserved : goal.loop-y-preserved
loop-y-preserved c = includes-more _ _ _ _ _ _ c.loop-y.invariant (elim c.else-on.branch [ else-on-via-then-on+else-not-row_within w ↦ (λ x. w.row_within.ensures.holds w.if-not-row_within.false) | else-on-via-else-on w ↦ (λ x. absurd (hasb-not _ _ (sym c.has_bit-on.ensures ∙ w.if-on.false) x)) ])
