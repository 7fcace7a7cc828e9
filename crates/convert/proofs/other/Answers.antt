-- `convert::other` meets its contract. Assumes nothing.
use Rattle.std.proofs.Common.{sym}
use Rattle.convert.specs.laws.Width.{other-large, other-small}
use Rattle.convert.proofs.other.Goals as goal

pub returns-then-width-eq-LARGE : goal.returns-then-width-eq-LARGE
returns-then-width-eq-LARGE c = sym (other-large _ c.if-width-eq-LARGE.true)

pub returns-else-width-eq-LARGE : goal.returns-else-width-eq-LARGE
returns-else-width-eq-LARGE c = sym (other-small _ c.if-width-eq-LARGE.false)
