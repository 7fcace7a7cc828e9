-- `saltreeve::stores::saltreeve_convert` meets its contract. Assumes nothing.
use Rattle.convert.proofs.laws.Codes.{converts-fits}
use Rattle.saltreeve.proofs.stores.saltreeve_convert.Goals as goal

pub signed-requires : goal.signed-requires
signed-requires c = converts-fits _ (λ i. (c.type_inv.source i).fits) c.convert-a.ensures
