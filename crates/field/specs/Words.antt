-- The words of a sheet, and what a line is by its word.
use Rattle.std.specs.Prelude.{Option, Some, None}
use Rattle.std.specs.Prelude.{Bool, cond, List, [], ◌∷◌, ℕ, get_or, drop}
use Rattle.text.specs.Bytes.{bytes, same}
use Rattle.field.specs.declared.Form.{Form}
use Rattle.field.specs.declared.Form.TheVariants as form
use Rattle.field.specs.declared.Operator.{Operator}
use Rattle.field.specs.declared.Operator.TheVariants as operator
use Rattle.field.specs.declared.RuleWord.TheVariants as rule
use Rattle.field.specs.declared.Section.{Section}
use Rattle.field.specs.declared.Section.TheVariants as section
use Rattle.field.specs.declared.StatementWord.TheVariants as statement

-- a field: its bytes
abbrev pub Field : Type 0
Field = List ℕ

-- the field at a place, from 0
abbrev pub at : ℕ → List Field → Field
at i fs = get_or fs i []

-- of words, each with what it stands for: the words alone
abbrev pub spellings : {A : Type 0} → List (Field × A) → List Field
spellings [] = []
spellings (p ∷ ps) = p.0 ∷ spellings ps

-- what a field stands for: what the word does that it is, or else `none`
abbrev pub meaning : {A : Type 0} → A → List (Field × A) → Field → A
meaning none [] f = none
meaning none (p ∷ ps) f = cond (same f p.0) p.1 (meaning none ps f)

-- the eleven words of expressions
abbrev pub operator_words : List (Field × Option Operator)
operator_words =
    (bytes "and", Some operator.And) ∷ (bytes "or", Some operator.Or) ∷ (bytes "not", Some operator.Not) ∷ (bytes "some", Some operator.Some) ∷ (bytes "all", Some operator.All)
    ∷ (bytes "atleast", Some operator.AtLeast) ∷ (bytes "atmost", Some operator.AtMost) ∷ (bytes "self", Some operator.SelfOf) ∷ (bytes "one", Some operator.One)
    ∷ (bytes "top", Some operator.Top) ∷ (bytes "bot", Some operator.Bot) ∷ []

unfoldable pub operator_of : Field → Option Operator
operator_of f = meaning None operator_words f

-- the words of declarations and statements
abbrev pub line_words : List (Field × Form)
line_words =
    (bytes "concept", form.Concept) ∷ (bytes "role", form.Role) ∷ (bytes "item", form.Item)
    ∷ (bytes "in", form.Statement statement.In) ∷ (bytes "rel", form.Statement statement.Rel) ∷ (bytes "same", form.Statement statement.Same)
    ∷ (bytes "under", form.Statement statement.Under) ∷ (bytes "runder", form.Statement statement.RoleUnder) ∷ []

unfoldable pub line_form : Field → Form
line_form f = meaning form.Unknown line_words f

-- the words of rules
abbrev pub rule_words : List (Field × Form)
rule_words =
    (bytes "sub", form.Rule rule.Sub) ∷ (bytes "rsub", form.Rule rule.RoleSub) ∷ (bytes "chain", form.Rule rule.Chain) ∷ (bytes "ref", form.Rule rule.Ref)
    ∷ (bytes "irr", form.Rule rule.Irr) ∷ (bytes "dis", form.Rule rule.Dis) ∷ (bytes "in", form.Rule rule.In) ∷ (bytes "rel", form.Rule rule.Rel)
    ∷ (bytes "norel", form.Rule rule.NoRel) ∷ (bytes "same", form.Rule rule.Same) ∷ (bytes "differ", form.Rule rule.Differ) ∷ []

unfoldable pub rule_form : Field → Form
rule_form f = meaning form.Unknown rule_words f

-- the field is the word `rule`
abbrev pub is_rule : Field → Bool
is_rule f = same f (bytes "rule")

-- what a line is: by its first word, and where that is `rule`, by the word after it
abbrev pub form_of : List Field → Form
form_of [] = form.Unknown
form_of (w ∷ []) = cond (is_rule w) form.Bare (line_form w)
form_of (w ∷ v ∷ fs) = cond (is_rule w) (rule_form v) (line_form w)

-- the section that a line is in
abbrev pub section_of : Form → Option Section
section_of form.Concept = Some section.Declarations
section_of form.Role = Some section.Declarations
section_of form.Item = Some section.Declarations
section_of (form.Statement w) = Some section.Statements
section_of (form.Rule w) = Some section.Rules
section_of form.Bare = Some section.Rules
section_of form.Unknown = None

-- the fields after the word or words
abbrev pub body_of : List Field → List Field
body_of [] = []
body_of (w ∷ fs) = cond (is_rule w) (drop 1 fs) fs
