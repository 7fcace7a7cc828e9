-- `saltreeve::add` meets its contract. Assumes nothing.
use Rattle.batch.specs.laws.Codes.{adds-fits}
use Rattle.saltreeve.proofs.add.Goals as goal

pub signed-requires : goal.signed-requires
signed-requires c = adds-fits _ (λ i. (c.type_inv.words i).fits) c.add.ensures
