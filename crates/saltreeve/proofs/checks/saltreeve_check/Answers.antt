-- `saltreeve::checks::saltreeve_check` meets its contract. Assumes nothing.
use Rattle.std.proofs.Common.{w64, pos, arith}
use Rattle.std.proofs.lemmas.Int.{to_z-of_z}
use Rattle.report.specs.laws.Short.{pages-short}
use Rattle.saltreeve.specs.laws.Check.{check-in-place}
use Rattle.saltreeve.proofs.checks.saltreeve_check.Goals as goal

pub overflow_cast-result : goal.overflow_cast-result
overflow_cast-result c = omega (arith, pages-short c.page-n.ensures)

pub returns-then-room-ge-BYTES : goal.returns-then-room-ge-BYTES
returns-then-room-ge-BYTES c = let z = pages-short c.page-n.ensures in
    rw (to_z-of_z w64 (pos c.page-n.result) (record { sfits = omega (arith, z) })) (check-in-place c.page-n.ensures (omega (arith, z, c.if-room-ge-BYTES.true)))
