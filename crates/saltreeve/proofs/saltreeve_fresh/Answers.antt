-- `saltreeve::saltreeve_fresh` meets its contract. Assumes nothing.
use Rattle.saltreeve.specs.laws.Code.{makes-fits}
use Rattle.saltreeve.proofs.saltreeve_fresh.Goals as goal

pub signed-requires : goal.signed-requires
signed-requires c = makes-fits _ c.fresh-a.ensures
