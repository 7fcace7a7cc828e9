-- `row::bit::count` meets its contract: one word more counts 64 bits more at most. Assumes nothing.
use Rattle.std.proofs.Common.{arith}
use Rattle.std.proofs.lemmas.Nat.{ones-le}
use Rattle.row.specs.laws.Total.{total-more}
use Rattle.row.proofs.bit.count.Goals as goal

pub loop-w-preserved : goal.loop-w-preserved
loop-w-preserved c = (omega (arith, ones-le 64 _ (c.type_inv.s c.loop-w.w-index).fits), total-more c.args.s.now _ c.loop-w.w-index (omega arith) c.loop-w.invariant.1)
