-- `reader::scan::skip` meets its contract. Assumes nothing.
use Rattle.std.proofs.Common.{arith}
use lib.Count.{trailing_le}
use Rattle.reader.specs.laws.Scan.{skip-none}
use Rattle.reader.specs.laws.Mask.{skip-word}
use Rattle.reader.proofs.scan.skip.Goals as goal

pub loop-i-init : goal.loop-i-init
loop-i-init c = skip-none _ _ c.requires

pub loop-i-preserved : goal.loop-i-preserved
loop-i-preserved c = skip-word c.eight.result _ c.loop-i.invariant (λ i. (c.type_inv.text i).fits) (omega arith) c.eight.ensures (c.mask-m.ensures.all c.if-m-eq0.true)

pub overflow_cast-result : goal.overflow_cast-result
overflow_cast-result c = omega (arith, trailing_le 64 c.mask-m.result)

pub overflow_add-result : goal.overflow_add-result
overflow_add-result c = omega (arith, trailing_le 64 c.mask-m.result)

pub returns-else-m-eq0 : goal.returns-else-m-eq0
returns-else-m-eq0 c = skip-word c.eight.result _ c.loop-i.invariant (λ i. (c.type_inv.text i).fits) (omega arith) c.eight.ensures (c.mask-m.ensures.some c.if-m-eq0.false)

pub skip_one-requires-2 : goal.skip_one-requires-2
skip_one-requires-2 c = skip-none _ _ c.requires
