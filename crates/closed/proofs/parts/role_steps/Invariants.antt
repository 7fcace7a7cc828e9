-- `closed::parts::role_steps` meets its contract. Assumes nothing.
use Rattle.closed.specs.own.Closed.{RoleSteps}
use Rattle.closed.proofs.parts.role_steps.Given as goal

abbrev pub invariant-loop-r : goal.invariant-loop-r
invariant-loop-r l = RoleSteps l.s l.at l.r l.n
