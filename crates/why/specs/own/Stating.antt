-- The second reading of an accepted sheet: its statements, one after the other.
use Rattle.std.specs.Prelude.{◌≡◌, Option, Some, None, List, [], ◌∷◌, ◌++◌, ℕ, ◌+◌, ◌≤◌, ◌<◌, length}
use Rattle.text.specs.own.Split.{parts_from}
use Rattle.store.specs.Cell.{Within, cell_of}
use Rattle.field.specs.declared.Form.{Form}
use Rattle.field.specs.declared.Form.TheVariants as form
use Rattle.line.specs.Fault.{sheet_limit}
use Rattle.field.specs.Names.{Names, counts_of}
use Rattle.sheet.specs.Said.{Said, SheetStatement, outcome_from}
use Rattle.stated.specs.Stated.{statement_of}
use Rattle.sheet.specs.Said.Outcome.{accepted}
use Rattle.field.specs.own.Table.{Table, names_of}
use Rattle.field.specs.Words.{Field}
use Rattle.why.specs.declared.StatementLine.{StatementLine}

-- the statement of a line, by its form; the line has the number k, and `past` is the place past it
abbrev pub LineStatement : Names → Form → List Field → ℕ → ℕ → Option StatementLine → Type 0
LineStatement n form.Concept fs k past r = r ≡ None
LineStatement n form.Role fs k past r = r ≡ None
LineStatement n form.Item fs k past r = r ≡ None
LineStatement n (form.Statement w) fs k past r = r ≡ Some (record { line = k; past = past; statement = statement_of n w fs })
LineStatement n (form.Rule w) fs k past r = r ≡ None
LineStatement n form.Bare fs k past r = r ≡ None
LineStatement n form.Unknown fs k past r = r ≡ None

-- the table t has the names of the accepted sheet x; its lines from a place on, the first of which has the number k, come after its statements `done`
pub record Passing (sheet : List ℕ) (t : Table) (x : Said) (done : List SheetStatement) (at k : ℕ) : Type 0 where
  pub said : Said
  pub names : x.names ≡ names_of sheet t
  pub statements : said.statements ≡ done
  pub rest : outcome_from k said (parts_from 10 sheet at) ≡ accepted x
  pub short : length sheet ≤ sheet_limit
  pub inside : at ≤ length sheet + 1
  pub near : k ≤ at + 2

-- the second reading stands at a place of an accepted sheet
pub record Paused (sheet : List ℕ) (t : Table) (at k : ℕ) : Type 0 where
  pub all : Said
  pub before : List SheetStatement
  pub passing : Passing sheet t all before at k

-- the statement that was found
abbrev pub found_statement : StatementLine → SheetStatement
found_statement r = record { line = r.line; statement = r.statement }

-- the statement after those `done`, or there is none
abbrev pub NextStatement : List ℕ → Table → Said → List SheetStatement → Option StatementLine → Type 0
NextStatement sheet t x done (Some r) = Passing sheet t x (done ++ found_statement r ∷ []) r.past (r.line + 1) × Within (counts_of x.names) (cell_of r.statement)
NextStatement sheet t x done None = x.statements ≡ done

-- the first statement from a place on; its line ends past that place
pub record Next (sheet : List ℕ) (t : Table) (at k : ℕ) (r : Option StatementLine) : Type 0 where
  pub statement : (x : Said) (done : List SheetStatement) → Passing sheet t x done at k → NextStatement sheet t x done r
  pub later : (q : StatementLine) → r ≡ Some q → at < q.past
