-- `signed::explained` meets its contract. Assumes nothing.
use native.Mathlib.Omega.{arith}
use mathlib.Core.Path.{◌∙◌}
use mir.Syntax.{w64}
use mir.ValLaws.{to_z-of_z, to_z_pos}
use Rattle.signed.proofs.explained.Goals as goal

pub overflow_cast-result : goal.overflow_cast-result
overflow_cast-result c = let h = rw c.in-Ok.is at c.requires in record { sfits = omega arith }

pub refusal-requires : goal.refusal-requires
refusal-requires c = rw c.in-Err.is at c.requires

pub returns-in-Ok : goal.returns-in-Ok
returns-in-Ok c = let h = rw c.in-Ok.is at c.requires in rw c.in-Ok.is (to_z_pos w64 _ (omega arith))

pub returns-in-Err : goal.returns-in-Err
returns-in-Err c = rw c.in-Err.is (to_z-of_z w64 c.refusal.result (record { sfits = omega (arith, c.refusal.type_inv) }) ∙ c.refusal.ensures)
