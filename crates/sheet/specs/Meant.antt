-- The rules that a sheet means: of each rule line what its fields mean.
use Rattle.std.specs.Prelude.{List, [], ◌∷◌, ◌++◌, map, ℕ, ◌+◌}
use Rattle.text.specs.Split.{fields}
use Rattle.field.specs.declared.Form.{Form}
use Rattle.field.specs.declared.Form.TheVariants as form
use Rattle.field.specs.Names.{Names}
use Rattle.field.specs.Words.{Field, form_of, body_of}
use Rattle.saying.specs.Meant.{Meant, meaning_of, meant_by}
use Rattle.sheet.specs.Said.{SheetRule}

-- a rule as it is meant, and the number of its line
pub record MeantRule : Type 0 where
  pub line : ℕ
  pub meant : Meant

-- what the rules of a sheet mean
abbrev pub meanings : List SheetRule → List MeantRule
meanings rs = map (λ (r : SheetRule). record { line = r.line; meant = meaning_of r.rule }) rs

-- what a line with the number k means: a rule, if it is a rule line
abbrev pub line_means : Names → ℕ → Form → List Field → List MeantRule
line_means n k form.Concept fs = []
line_means n k form.Role fs = []
line_means n k form.Item fs = []
line_means n k (form.Statement w) fs = []
line_means n k (form.Rule w) fs = record { line = k; meant = meant_by n w fs } ∷ []
line_means n k form.Bare fs = []
line_means n k form.Unknown fs = []

-- what lines mean, one after the other, the first with the number k
unfoldable pub lines_mean : Names → ℕ → List (List ℕ) → List MeantRule
lines_mean n k [] = []
lines_mean n k (l ∷ ls) = line_means n k (form_of (fields l)) (body_of (fields l)) ++ lines_mean n (k + 1) ls
