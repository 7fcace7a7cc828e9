-- `closed::parts::roles_below` meets its contract. Assumes nothing.
use Rattle.closed.specs.own.Closed.{RolesBelow}
use Rattle.closed.proofs.parts.roles_below.Given as goal

abbrev pub invariant-loop-r : goal.invariant-loop-r
invariant-loop-r l = RolesBelow l.s l.at l.r l.n
