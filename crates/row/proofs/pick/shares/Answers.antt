-- `row::pick::shares` meets its contract. Assumes nothing.
use Rattle.std.proofs.Common.{arith}
use Rattle.std.proofs.Math.Nat.{lt_of_le_of_lt}
use Rattle.std.proofs.lemmas.Nat.{and_le_l}
use Rattle.logic.specs.laws.Decides.{decides-yes}
use Rattle.row.specs.laws.Shared.{shared-here, shared-skip}
use Rattle.row.proofs.pick.shares.Goals as goal

pub returns-then-s-from-ne0 : goal.returns-then-s-from-ne0
returns-then-s-from-ne0 c = decides-yes (shared-here _ _ _ _ (omega arith) (lt_of_le_of_lt (and_le_l _ _) (c.type_inv.s _).fits) c.if-s-from-ne0.true)

pub loop-h-preserved : goal.loop-h-preserved
loop-h-preserved c = shared-skip _ _ _ _ c.loop-h.invariant c.if-s-from-ne0.false
