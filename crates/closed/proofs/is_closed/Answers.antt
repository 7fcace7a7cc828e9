-- `closed::is_closed` meets its contract: its parts decide what the test asks. Assumes nothing.
use Rattle.std.proofs.Common.{rules}
use Rattle.closed.specs.laws.Closed.{decides-closed}
use Rattle.closed.proofs.is_closed.Goals as goal

pub returns-then-items_closed : goal.returns-then-items_closed
returns-then-items_closed c = decides-closed c.requires.0 c.requires.1 (λ i. (c.type_inv.s i).fits) (search rules)

pub returns-else-items_closed : goal.returns-else-items_closed
returns-else-items_closed c = decides-closed c.requires.0 c.requires.1 (λ i. (c.type_inv.s i).fits) (search rules)
