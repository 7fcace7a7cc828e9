-- `row::pick::common` meets its contract: a word more has 64 bits at most. Assumes nothing.
use Rattle.std.specs.Prelude.{◌+◌, get_or}
use Rattle.std.specs.Int.Bits.{bit_and}
use Rattle.std.proofs.Common.{arith}
use Rattle.std.proofs.Math.Nat.{lt_of_le_of_lt}
use Rattle.std.proofs.lemmas.Nat.{and_le_l, ones-le}
use Rattle.row.specs.laws.Common.{common-le, common-more, common-none}
use Rattle.row.proofs.pick.common.Goals as goal

pub loop-h-init : goal.loop-h-init
loop-h-init c = common-none _ _ _

pub overflow_add-n-in-loop-h : goal.overflow_add-n-in-loop-h
overflow_add-n-in-loop-h c = omega (arith, ones-le 64 (bit_and (get_or c.args.s.now (c.args.from + c.loop-h.h) 0) (get_or c.args.p.now c.loop-h.h 0)) (lt_of_le_of_lt (and_le_l _ _) (c.type_inv.s _).fits), common-le c.loop-h.invariant)

pub loop-h-preserved : goal.loop-h-preserved
loop-h-preserved c = common-more c.loop-h.invariant (lt_of_le_of_lt (and_le_l _ _) (c.type_inv.s _).fits)
