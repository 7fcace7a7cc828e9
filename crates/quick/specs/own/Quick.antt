-- Lines that are statements with nothing wrong, as their fields alone tell.
use Rattle.std.specs.Prelude.{◌≡◌, false, List, ℕ, drop, length, Option, Some, None}
use Rattle.text.specs.Split.{fields}
use Rattle.store.specs.declared.Statement.{Statement}
use Rattle.store.specs.Cell.{Within, cell_of}
use Rattle.field.specs.declared.Form.TheVariants as form
use Rattle.field.specs.declared.StatementWord.{StatementWord}
use Rattle.field.specs.Due.{none, statement_lineup}
use Rattle.field.specs.Names.{Names, counts_of}
use Rattle.field.specs.Words.{Field, form_of}
use Rattle.line.specs.declared.Marks.{Marks}
use Rattle.line.specs.Fault.{line_fault}
use Rattle.stated.specs.Stated.{statement_of}

-- the statement that was found is as P says; where none was found, none is
abbrev pub Finds : (Statement → Type 0) → Option Statement → Type 0
Finds P (Some s) = P s
Finds P None = (z : Statement) → ¬ P z

-- s is the statement of as many fields as its word wants, and all its names are declared
pub record Named (n : Names) (w : StatementWord) (fs : List Field) (s : Statement) : Type 0 where
  pub count : length fs ≡ length (statement_lineup w)
  pub is : s ≡ statement_of n w fs
  pub within : Within (counts_of n) (cell_of s)

-- s is the statement of the line's fields, which may stand after the marks m
pub record Stated (n : Names) (m : Marks) (line : List ℕ) (s : Statement) : Type 0 where
  pub word : StatementWord
  pub form : form_of (fields line) ≡ form.Statement word
  pub early : m.rules ≡ 0
  pub named : Named n word (drop 1 (fields line)) s

-- s is the statement of a line with nothing wrong
pub record Plainly (n : Names) (m : Marks) (line : List ℕ) (s : Statement) : Type 0 where
  pub some : none line ≡ false
  pub right : line_fault n m line ≡ 0
  pub stated : Stated n m line s
