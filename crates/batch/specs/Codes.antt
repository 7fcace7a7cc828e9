-- The numbers of the C face for the store: an answer as a signed number, and a cell by its kind.
use Rattle.std.specs.Prelude.{◌≡◌, true, false, cond, List, ℕ, eqb, ℤ, pos, neg_ℤ}
use Rattle.store.specs.declared.Counts.{Counts}
use Rattle.store.specs.Cell.{Cell}
use Rattle.store.specs.Cell.Cell.{Same, Under, RoleUnder, In, Link}
use Rattle.store.specs.Layout.{role_limit, width_of}
use Rattle.closure.specs.Refusal.{Answer}
use Rattle.std.specs.Prelude.{Err, Ok}
use Rattle.refusal.specs.Signed.{signed_of}
use Rattle.closure.specs.Refusal.{number}
use Rattle.closure.specs.Promise.{Adds}

-- an answer as a signed number
abbrev pub code_of : Answer → ℤ
code_of = signed_of number

-- the cell of a kind, by its numbers; any other kind is no cell: a link of a role that no sheet can have
abbrev pub cell_of_kind : ℕ → ℕ → ℕ → ℕ → Cell
cell_of_kind kind a b c =
    cond (eqb kind 0) (Same a b)
    (cond (eqb kind 1) (Under a b)
    (cond (eqb kind 2) (RoleUnder a false b)
    (cond (eqb kind 3) (RoleUnder a true b)
    (cond (eqb kind 4) (In a b)
    (cond (eqb kind 5) (Link c a b) (Link role_limit a b))))))

-- adding the cell c to the words s leaves t and gives r
pub record AddCode (n : Counts) (c : Cell) (s t : List ℕ) (r : ℤ) : Type 0 where
  pub answer : Answer
  pub adds : Adds (width_of s) n c s t answer
  pub code : r ≡ code_of answer
