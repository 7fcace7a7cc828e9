-- The own record of the walk along the fields of a line: what they come to.
use Rattle.std.specs.Prelude.{◌≡◌, List, ℕ}
use Rattle.field.specs.declared.Due.{Due}
use Rattle.line.specs.declared.Walked.{Walked}
use Rattle.line.specs.own.Number.{found}
use Rattle.field.specs.Due.{fits}
use Rattle.field.specs.Names.{Names, field_faults, nodes_in}

-- what the fields of a line from a place on come to, where the ds are due
pub record WalkedBy (n : Names) (ds : List Due) (fs : List (List ℕ)) (r : Walked) : Type 0 where
  pub fit : r.fits ≡ fits ds fs
  pub fault : found r.fault ≡ field_faults n ds fs
  pub nodes : r.nodes ≡ nodes_in ds fs
