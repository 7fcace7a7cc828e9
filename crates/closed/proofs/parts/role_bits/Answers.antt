-- `closed::parts::role_bits` meets its contract: the bits are those of the two halves. Assumes nothing.
use Rattle.logic.specs.laws.Decides.{decides-iff, decides-no}
use Rattle.closed.specs.laws.RoleBits.{bits-high, bits-low, halves-bits}
use Rattle.closed.proofs.parts.role_bits.Goals as goal

pub returns-then-word_below : goal.returns-then-word_below
returns-then-word_below c = decides-iff (halves-bits _ _ (c.word_below.ensures.holds c.if-word_below.true)) (bits-high _ _ c.requires) c.word_below-then-word_below.ensures

pub returns-else-word_below : goal.returns-else-word_below
returns-else-word_below c = rw c.if-word_below.false (decides-no (λ f. c.word_below.ensures.fails c.if-word_below.false (bits-low _ _ c.requires f)))
