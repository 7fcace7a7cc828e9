-- What is asked of an accepted sheet, and what is marked in it.
use Rattle.std.specs.Prelude.{◌≡◌, List, ℕ}
use Rattle.store.specs.Cell.{Cell}
use Rattle.sheet.specs.own.Pass.{Accepts}
use Rattle.sheet.specs.Said.{Said, outcome}
use Rattle.sheet.specs.Said.Outcome.{accepted}
use Rattle.field.specs.own.Table.{Table, names_of}
use Rattle.reason.specs.own.Picked.{picked}
use Rattle.why.specs.Reason.{FollowsFrom, Reason}

-- P holds of what the sheet with the names of the table t says, with whichever store it is accepted
abbrev pub Of : List ℕ → Table → (Said → Type 0) → Type 0
Of sheet t P = (W : ℕ) (x : Said) → outcome W sheet ≡ accepted x → x.names ≡ names_of sheet t → P x

-- the sheet is accepted with the names of the table t, and the cell c follows from its statements
pub record Asked (sheet : List ℕ) (t : Table) (c : Cell) : Type 0 where
  pub sheet_said : Accepts sheet t
  pub follows : Of sheet t (λ x. FollowsFrom t.counts c x.statements)

-- the statements marked are a reason for the cell c
abbrev pub ReasonMarked : List ℕ → Table → Cell → List ℕ → Type 0
ReasonMarked sheet t c marks = Of sheet t (λ x. Reason t.counts c x.statements (picked marks x.statements))
