-- `inspect::below::word_below` meets its contract. Assumes nothing.
use Rattle.logic.specs.laws.Decides.{decides-iff, decides-le, decides_eqb}
use Rattle.inspect.specs.laws.Below.{below_all, below-shift, shift-below}
use Rattle.inspect.proofs.below.word_below.Goals as goal

pub returns-then-n-ge64 : goal.returns-then-n-ge64
returns-then-n-ge64 c = decides-iff (below_all _ _ c.ranges.w.fits) (λ f. c.if-n-ge64.true) (decides-le 64 c.args.n)

pub returns-else-n-ge64 : goal.returns-else-n-ge64
returns-else-n-ge64 c = decides_eqb _ 0 (shift-below _ _) (below-shift _ _ c.ranges.w.fits)
