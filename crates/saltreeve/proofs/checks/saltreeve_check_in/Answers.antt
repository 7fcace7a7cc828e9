-- `saltreeve::checks::saltreeve_check_in` meets its contract. Assumes nothing.
use Rattle.std.proofs.Common.{w64, pos, arith}
use Rattle.std.proofs.lemmas.Int.{to_z-of_z}
use Rattle.report.specs.laws.Short.{pages-in-short, text-most}
use Rattle.saltreeve.specs.laws.Check.{check-in-in-place}
use Rattle.saltreeve.proofs.checks.saltreeve_check_in.Goals as goal

pub overflow_cast-result : goal.overflow_cast-result
overflow_cast-result c = omega (arith, pages-in-short c.page_in-n.ensures, text-most c.args.words.now)

pub returns-then-most-room : goal.returns-then-most-room
returns-then-most-room c = let z = pages-in-short c.page_in-n.ensures in
    rw (to_z-of_z w64 (pos c.page_in-n.result) (record { sfits = omega (arith, z, text-most c.args.words.now) })) (check-in-in-place c.page_in-n.ensures (omega (arith, z, c.if-most-room.true, c.most.ensures)))
