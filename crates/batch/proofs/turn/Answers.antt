-- `batch::turn` meets its contract. Assumes nothing.
use Rattle.std.proofs.Common.{◌∙◌, arith}
use mir.Syntax.{w64}
use mir.ValLaws.{to_z-of_z}
use Rattle.store.specs.laws.Width.{laid_by}
use Rattle.batch.specs.laws.Codes.{adds-fits}
use Rattle.batch.specs.laws.Turn.{turn-of}
use Rattle.batch.proofs.turn.Goals as goal

pub take-requires : goal.take-requires
take-requires c = (laid_by c.requires.0 c.requires.1.long, rw c.requires.0 c.requires.1)

pub signed-requires : goal.signed-requires
signed-requires c = adds-fits _ (λ i. (c.type_inv.words i).fits) (rw c.requires.0 at c.take.ensures)

pub returns : goal.returns
returns c = turn-of c.requires.1 (rw c.requires.0 at c.take.ensures) (to_z-of_z w64 c.signed.result (record { sfits = omega (arith, c.signed.type_inv) }) ∙ c.signed.ensures)
