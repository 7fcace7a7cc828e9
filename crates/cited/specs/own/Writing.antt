-- How the lines of a reason are written.
use Rattle.std.specs.Prelude.{◌≡◌, Bool, true, false, cond, Option, Some, None, List, [], ℕ, ◌+◌, ◌*◌, ◌≤◌, length}
use Rattle.reason.specs.own.Picked.{mark_words, picked}
use Rattle.text.specs.Text.{Wrote}
use Rattle.field.specs.declared.Form.{Form}
use Rattle.field.specs.declared.Form.TheVariants as form
use Rattle.field.specs.Names.{Names}
use Rattle.sheet.specs.Said.{Said, outcome}
use Rattle.sheet.specs.Said.Outcome.{accepted}
use Rattle.why.specs.Listed.{lines_of}
use Rattle.cited.specs.declared.Absent.{Absent}
use Rattle.cited.specs.declared.Printed.{Printed}
use Rattle.cited.specs.Text.{absent_text, lines_text, numbered_text, reason_text}

-- a line of this form is that of a statement
abbrev pub statement_form : Form → Bool
statement_form form.Concept = false
statement_form form.Role = false
statement_form form.Item = false
statement_form (form.Statement w) = true
statement_form (form.Rule w) = false
statement_form form.Bare = false
statement_form form.Unknown = false

-- a line with its number is written and counted, if `on`
pub record PutIf (on : Bool) (p : Printed) (number : ℕ) (line room exit : List ℕ) (r : Printed) : Type 0 where
  pub wrote : Wrote room p.at (cond on (numbered_text number line) []) exit r.at
  pub total : r.total ≡ p.total + cond on 1 0
  pub short : r.at ≤ p.at + cond on (length line + 27) 0

-- the sheet is accepted, with a store of some row width, and there is a mark for each of its statements
pub record Accepted (sheet : List ℕ) : Type 0 where
  pub width : ℕ
  pub said : Said
  pub ends : outcome width sheet ≡ accepted said
  pub few : length said.statements ≤ 64 * mark_words

-- the lines of the statements marked are written from the room's start on, and counted
pub record LinesPut (sheet marks room exit : List ℕ) (r : Printed) : Type 0 where
  pub wrote : (W : ℕ) (x : Said) → outcome W sheet ≡ accepted x → Wrote room 0 (lines_text sheet (picked marks (lines_of x.statements))) exit r.at
  pub total : (W : ℕ) (x : Said) → outcome W sheet ≡ accepted x → r.total ≡ length (picked marks (lines_of x.statements))
  pub short : r.at ≤ 500000
  pub few : r.total ≤ 500000

-- what is absent, if it is to be printed
abbrev pub absent_if : Names → Option Absent → List ℕ
absent_if n (Some a) = absent_text n a.item a.concept
absent_if n None = []

-- the whole text of the statements marked is written from the room's start on, as far as it reaches
pub record ReasonPut (sheet : List ℕ) (n : Names) (a : Option Absent) (marks room exit : List ℕ) (r : ℕ) : Type 0 where
  pub wrote : (W : ℕ) (x : Said) → outcome W sheet ≡ accepted x → Wrote room 0 (reason_text sheet (picked marks (lines_of x.statements)) (absent_if n a)) exit r
  pub short : r ≤ 800000
