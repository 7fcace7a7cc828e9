-- The reader's own records of a line: where its fields end, and how many stand before those that are due.
use Rattle.std.specs.Prelude.{◌≡◌, List, ℕ, length}
use Rattle.text.specs.Split.{fields}
use Rattle.reader.specs.own.Scan.{Ended}
use Rattle.field.specs.declared.Form.{Form}
use Rattle.field.specs.declared.Form.TheVariants as form

-- the line was looked at: these are the ends of its fields
pub record Looked (line ends : List ℕ) : Type 0 where
  pub ended : Ended line ends
  pub count : length ends ≡ length (fields line)

-- how many fields stand before those that are due, also where the rule word is missing; of an unknown word it says nothing
abbrev pub words_of : Form → ℕ
words_of form.Concept = 1
words_of form.Role = 1
words_of form.Item = 1
words_of (form.Statement w) = 1
words_of (form.Rule w) = 2
words_of form.Bare = 2
words_of form.Unknown = 1
