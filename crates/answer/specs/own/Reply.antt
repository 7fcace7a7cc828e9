-- How a question is answered.
use Rattle.std.specs.Prelude.{◌≡◌, Option, false, List, ℕ}
use Rattle.reason.specs.own.Picked.{picked}
use Rattle.store.specs.declared.Counts.{Counts}
use Rattle.store.specs.Cell.{Cell}
use Rattle.field.specs.Names.{Names, counts_of}
use Rattle.sheet.specs.Promise.{Held}
use Rattle.sheet.specs.Said.{Said, SheetStatement, outcome}
use Rattle.sheet.specs.Said.Outcome.{accepted}
use Rattle.field.specs.own.Table.{Table, names_of}
use Rattle.why.specs.Listed.{lines_of}
use Rattle.why.specs.Reason.{Reason}
use Rattle.cited.specs.declared.Absent.{Absent}
use Rattle.answer.specs.Promise.{Fitted, Replies}
use Rattle.question.specs.Question.{about_finding, bare}
use Rattle.cited.specs.Text.{reason_text}
use Rattle.cited.specs.own.Writing.{absent_if}

-- the text of the statements marked has place in the room and is written, or the room is as it was
pub record ReasonFits (sheet : List ℕ) (n : Names) (a : Option Absent) (marks room exit : List ℕ) (r : ℕ) : Type 0 where
  pub fits : (W : ℕ) (x : Said) → outcome W sheet ≡ accepted x → Fitted (reason_text sheet (picked marks (lines_of x.statements)) (absent_if n a)) room exit r

-- the same for a reason of the cell c
pub record ReasonSaid (sheet : List ℕ) (x : Said) (n : Counts) (c : Cell) (a : Option Absent) (room exit : List ℕ) (r : ℕ) : Type 0 where
  pub list : List SheetStatement
  pub reason : Reason n c x.statements list
  pub fits : Fitted (reason_text sheet (lines_of list) (absent_if x.names a)) room exit r

-- the sheet is accepted with the names of the table t, and the store s, of row width W, holds what follows from it
pub record Stored (W : ℕ) (sheet : List ℕ) (t : Table) (s : List ℕ) : Type 0 where
  pub said : Said
  pub ends : outcome W sheet ≡ accepted said
  pub names : said.names ≡ names_of sheet t
  pub counts : counts_of said.names ≡ t.counts
  pub held : Held W said s

-- the answer to a question q for a cell, without a line feed at its end
pub record CellReply (W : ℕ) (sheet q room exit : List ℕ) (r : ℕ) : Type 0 where
  pub reply : (question : List ℕ) → bare question ≡ q → about_finding q ≡ false → Replies W sheet question room exit r

-- the same for a finding
pub record FindingReply (W : ℕ) (sheet q room exit : List ℕ) (r : ℕ) : Type 0 where
  pub reply : (question : List ℕ) → bare question ≡ q → Replies W sheet question room exit r
