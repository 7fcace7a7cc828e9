-- How a question for a cell is taken apart.
use Rattle.std.specs.Prelude.{◌≡◌, Option, Some, None, List, ℕ}
use Rattle.store.specs.declared.Statement.{Statement}
use Rattle.store.specs.Cell.{Cell, cell_of}
use Rattle.field.specs.declared.Form.{Form}
use Rattle.field.specs.declared.Form.TheVariants as form
use Rattle.field.specs.Names.{Names}
use Rattle.stated.specs.Stated.{statement_of}
use Rattle.field.specs.Words.{Field}
use Rattle.question.specs.Question.{AsksCell}

-- the cell that a line of this form states, if it is that of a statement
abbrev pub FormAsked : Names → Form → List Field → Option Statement → Type 0
FormAsked n form.Concept fs r = r ≡ None
FormAsked n form.Role fs r = r ≡ None
FormAsked n form.Item fs r = r ≡ None
FormAsked n (form.Statement w) fs r = r ≡ Some (statement_of n w fs)
FormAsked n (form.Rule w) fs r = r ≡ None
FormAsked n form.Bare fs r = r ≡ None
FormAsked n form.Unknown fs r = r ≡ None

-- the cell that a question asks for, or it asks for none
abbrev pub Asking : Names → List ℕ → Option Statement → Type 0
Asking n q (Some r) = AsksCell n q (cell_of r)
Asking n q None = (c : Cell) → ¬ (AsksCell n q c)
