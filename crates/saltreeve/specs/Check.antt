-- What the order-entry host gets: the text that is printed for a sheet, or minus 8 where it is longer than the room.
use Rattle.std.specs.Prelude.{List, ℕ, ℤ}
use Rattle.store.specs.Layout.{small}
use Rattle.sheet.specs.Promise.{Prints}
use Rattle.report.specs.Promise.{PrintsIn, ReadInto}
use Rattle.handover.specs.Room.{InRoom}

-- the room that was lent becomes exit; the store is the smaller one
abbrev pub Checks : List ℕ → List ℕ → List ℕ → ℤ → Type 0
Checks sheet room exit r = InRoom (Prints small sheet) room exit r

-- with a lent store: whatever becomes of the room, the store s becomes t, as reading the sheet leaves it
pub record ChecksIn (sheet s t room exit : List ℕ) (r : ℤ) : Type 0 where
  pub store : ReadInto sheet s t
  pub text : InRoom (PrintsIn sheet s) room exit r
