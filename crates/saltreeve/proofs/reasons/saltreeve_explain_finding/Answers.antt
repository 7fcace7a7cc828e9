-- `saltreeve::reasons::saltreeve_explain_finding` meets its contract. Assumes nothing.
use Rattle.saltreeve.specs.laws.Bounds.{finding-small}
use Rattle.saltreeve.proofs.reasons.saltreeve_explain_finding.Goals as goal

pub finding-requires : goal.finding-requires
finding-requires c = finding-small c.explain.ensures
