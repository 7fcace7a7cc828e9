-- `row::bit::low_bits` meets its contract. Assumes nothing.
use Rattle.std.specs.Prelude.{ℕ, ◌-◌}
use Rattle.std.proofs.Common.{ap, ◌∙◌}
use Rattle.row.specs.laws.Bit.{low-all, low-some}
use Rattle.row.proofs.bit.low_bits.Goals as goal

pub returns-then-n-ge64 : goal.returns-then-n-ge64
returns-then-n-ge64 c = low-all _ c.if-n-ge64.true

pub returns-else-n-ge64 : goal.returns-else-n-ge64
returns-else-n-ge64 c = ap (λ (v : ℕ). v - 1) c.one_bit.ensures ∙ low-some _ c.if-n-ge64.false
