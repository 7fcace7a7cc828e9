-- What a question about a sheet asks for. A question is one line: a statement, or the line that is printed for a finding.
use Rattle.std.specs.Prelude.{◌≡◌, Bool, true, cond, List, [], ◌∷◌, ℕ, ◌-◌, eqb, length, get_or, take}
use Rattle.text.specs.Bytes.{bytes, same}
use Rattle.text.specs.Split.{fields}
use Rattle.text.specs.Text.{decimal}
use Rattle.store.specs.Cell.{Cell, cell_of}
use Rattle.field.specs.declared.Form.TheVariants as form
use Rattle.line.specs.declared.Marks.{Marks}
use Rattle.field.specs.declared.StatementWord.{StatementWord}
use Rattle.line.specs.Fault.{line_fault}
use Rattle.field.specs.Names.{Names}
use Rattle.field.specs.Words.{at, Field, body_of, form_of}
use Rattle.stated.specs.Stated.{item_of, statement_of}

-- the question without a line feed at its end
unfoldable pub bare : List ℕ → List ℕ
bare q = cond (eqb (get_or q (length q - 1) 0) 10) (take (length q - 1) q) q

-- its first field is `finding`
unfoldable pub about_finding : List ℕ → Bool
about_finding q = same (at 0 (fields q)) (bytes "finding")

-- the place of a question: after a statement and before the rules
abbrev pub among_statements : Marks
among_statements = record { stated = true; rules = 0 }

-- the line q is a statement with nothing wrong with it, after the names n: it asks for its cell
pub record AsksCell (n : Names) (q : List ℕ) (c : Cell) : Type 0 where
  pub word : StatementWord
  pub form : form_of (fields q) ≡ form.Statement word
  pub right : line_fault n among_statements q ≡ 0
  pub cell : c ≡ cell_of (statement_of n word (body_of (fields q)))

-- the line q is the one that is printed for the item a where it breaks the rule in a line: `finding`, the line's number, the item
pub record AsksFinding (n : Names) (q : List ℕ) (line a : ℕ) : Type 0 where
  pub name : Field
  pub is : fields q ≡ bytes "finding" ∷ decimal line ∷ name ∷ []
  pub item : a ≡ (item_of n name).0
