-- The printed lines of all rules of a sheet.
use Rattle.std.specs.Prelude.{◌≡◌, List, ℕ, ◌*◌, ◌-◌, ◌≤◌, length, take}
use Rattle.store.specs.Layout.{Holds}
use Rattle.rule.specs.declared.Finding.{Finding}
use Rattle.text.specs.Text.{Wrote}
use Rattle.field.specs.Names.{counts_of}
use Rattle.sheet.specs.declared.Ended.{Ended}
use Rattle.sheet.specs.Promise.{FindingsFrom, findings_text, print_limit}
use Rattle.sheet.specs.Said.{Said, SheetRule, outcome}
use Rattle.sheet.specs.Said.Outcome.{accepted}
use Rattle.sheet.specs.own.Stands.{Opens}
use Rattle.field.specs.own.Table.{Table, names_of}
use Rattle.printed.specs.declared.Tally.{Tally}
use Rattle.printed.specs.own.Lines.{finding_bound}

-- the rules `done` of the sheet x are judged in the store t: the first of their findings are written, and all are counted
pub record Printed (W : ℕ) (x : Said) (t : List ℕ) (done : List SheetRule) (room : List ℕ) (at : ℕ) (exit : List ℕ) (b : Tally) : Type 0 where
  pub list : List Finding
  pub findings : FindingsFrom (Holds W (counts_of x.names) t) (counts_of x.names) 0 done list
  pub wrote : Wrote room at (findings_text x (take print_limit list)) exit b.at
  pub left : b.left ≡ print_limit - length list
  pub total : b.total ≡ length list

-- all rules of the accepted sheet are judged, the text from the room's start on; the place stays small
pub record JudgedAll (W : ℕ) (sheet : List ℕ) (t : Table) (s : List ℕ) (room exit : List ℕ) (r : Tally) : Type 0 where
  pub printed : (x : Said) → outcome W sheet ≡ accepted x → x.names ≡ names_of sheet t → Printed W x s x.rules room 0 exit r
  pub near : r.at ≤ finding_bound * print_limit

-- the numbers lent for names and the store t were filled with the sheet, whose lines ended so
pub record Filled (W : ℕ) (sheet numbers t : List ℕ) (e : Ended) : Type 0 where
  pub store : List ℕ
  pub opens : Opens W sheet store numbers t e
