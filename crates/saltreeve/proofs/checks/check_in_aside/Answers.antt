-- `saltreeve::checks::check_in_aside` meets its contract. Assumes nothing.
use Rattle.std.proofs.Common.{arith, w64}
use Rattle.std.proofs.lemmas.Int.{to_z-of_z}
use Rattle.report.specs.laws.Short.{pages-in-short, text-most}
use Rattle.saltreeve.specs.laws.Check.{check-in-by}
use Rattle.saltreeve.proofs.checks.check_in_aside.Goals as goal

pub hand-requires : goal.hand-requires
hand-requires c = let z = pages-in-short c.page_in-n.ensures in let most = text-most c.args.words.now in (omega arith, omega arith)

pub returns : goal.returns
returns c = rw (to_z-of_z w64 c.hand.result (record { sfits = omega (arith, c.hand.type_inv) })) (check-in-by c.page_in-n.ensures (omega (arith, pages-in-short c.page_in-n.ensures, text-most c.args.words.now)) c.hand.ensures)
