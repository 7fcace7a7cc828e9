-- `saltreeve::reasons::saltreeve_explain` meets its contract. Assumes nothing.
use Rattle.saltreeve.specs.laws.Bounds.{explained-small}
use Rattle.saltreeve.proofs.reasons.saltreeve_explain.Goals as goal

pub explained-requires : goal.explained-requires
explained-requires c = explained-small c.explain.ensures
