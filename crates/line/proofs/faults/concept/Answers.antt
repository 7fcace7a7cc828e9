-- `line::faults::concept` meets its contract. Assumes nothing.
use Rattle.field.specs.own.Known.{names_in}
use Rattle.line.specs.laws.Fault.{concept-found}
use Rattle.line.proofs.faults.concept.Goals as goal

pub returns-then-at-known : goal.returns-then-at-known
returns-then-at-known c = let k = c.args.known.now in
    concept-found (names_in k) k.tidy.proper.concepts c.concept-at.ensures c.if-at-known.true
