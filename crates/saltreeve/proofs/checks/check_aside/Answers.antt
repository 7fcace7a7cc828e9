-- `saltreeve::checks::check_aside` meets its contract. Assumes nothing.
use Rattle.std.proofs.Common.{arith, w64}
use Rattle.std.proofs.lemmas.Int.{to_z-of_z}
use Rattle.report.specs.laws.Short.{pages-short}
use Rattle.saltreeve.specs.laws.Check.{check-by}
use Rattle.saltreeve.proofs.checks.check_aside.Goals as goal

pub hand-requires : goal.hand-requires
hand-requires c = let z = pages-short c.page-n.ensures in (omega arith, omega arith)

pub returns : goal.returns
returns c = rw (to_z-of_z w64 c.hand.result (record { sfits = omega (arith, c.hand.type_inv) })) (check-by c.page-n.ensures (omega (arith, pages-short c.page-n.ensures)) c.hand.ensures)
