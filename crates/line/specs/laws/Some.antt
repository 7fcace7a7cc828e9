-- The line of a rule, or of a statement, is not empty. Assumes nothing.
use Rattle.std.specs.Prelude.{◌≡◌, refl, false, List, [], ◌∷◌, ℕ}
use Rattle.std.proofs.Common.{sym, ◌∙◌}
use Rattle.text.specs.Bytes.{same}
use Rattle.text.specs.Split.{fields, split}
use Rattle.field.specs.declared.Form.{Form}
use Rattle.field.specs.declared.Form.TheVariants as form
use Rattle.field.specs.declared.RuleWord.{RuleWord}
use Rattle.field.specs.declared.StatementWord.{StatementWord}
use Rattle.field.specs.Due.{none}
use Rattle.field.specs.Words.{form_of, line_form}

-- an empty line is no rule and no statement
empty-form : form_of (fields []) ≡ form.Unknown
unfolding split line_form same
empty-form = refl

-- the line of a rule is not empty
pub rule-some : (l : List ℕ) (w : RuleWord) → form_of (fields l) ≡ form.Rule w → none l ≡ false
rule-some [] w e = let z : ◌≡◌ {A = Form} form.Unknown (form.Rule w) = sym empty-form ∙ e in cc
rule-some (b ∷ l) w e = refl

-- nor is that of a statement
pub statement-some : (l : List ℕ) (w : StatementWord) → form_of (fields l) ≡ form.Statement w → none l ≡ false
statement-some [] w e = let z : ◌≡◌ {A = Form} form.Unknown (form.Statement w) = sym empty-form ∙ e in cc
statement-some (b ∷ l) w e = refl
