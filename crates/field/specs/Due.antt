-- What is due in the fields of a line, and whether there are too few fields or too many.
use Rattle.std.specs.Prelude.{Option, Some, None, Bool, true, false, cond, List, [], ◌∷◌, ◌++◌, ℕ, min, max, ◌+◌, take}
use Rattle.field.specs.declared.Due.{Due}
use Rattle.field.specs.declared.Due.TheVariants.{NewConcept, NewRole, NewItem, Concept, Role, Item, RoleUse, AtLeast, AtMost, Expr, Nothing}
use Rattle.field.specs.declared.Form.{Form}
use Rattle.field.specs.declared.Form.TheVariants as form
use Rattle.field.specs.declared.Operator.{Operator}
use Rattle.field.specs.declared.Operator.TheVariants as operator
use Rattle.field.specs.declared.RuleWord.{RuleWord}
use Rattle.field.specs.declared.RuleWord.TheVariants as rule
use Rattle.field.specs.declared.StatementWord.{StatementWord}
use Rattle.field.specs.declared.StatementWord.TheVariants as statement
use Rattle.field.specs.Words.{Field, operator_of}
use Rattle.rule.specs.Form.{shortest, longest}

-- the fewest and the most roles of a chain: those of its path, 2 to 4, and the one that the path is under
abbrev pub chain_shortest : ℕ
chain_shortest = shortest + 1

abbrev pub chain_longest : ℕ
chain_longest = longest + 1

-- as many roles as there are fields, within these bounds
abbrev pub chain : ℕ → List Due
chain n = take (max chain_shortest (min n chain_longest)) (RoleUse ∷ RoleUse ∷ RoleUse ∷ RoleUse ∷ RoleUse ∷ [])

-- what a statement's fields are
abbrev pub statement_lineup : StatementWord → List Due
statement_lineup statement.In = Item ∷ Concept ∷ []
statement_lineup statement.Rel = Role ∷ Item ∷ Item ∷ []
statement_lineup statement.Same = Item ∷ Item ∷ []
statement_lineup statement.Under = Concept ∷ Concept ∷ []
statement_lineup statement.RoleUnder = RoleUse ∷ RoleUse ∷ []

-- what a rule's fields are, of which there are n
abbrev pub rule_lineup : RuleWord → ℕ → List Due
rule_lineup rule.Sub n = Expr ∷ Expr ∷ []
rule_lineup rule.RoleSub n = RoleUse ∷ RoleUse ∷ []
rule_lineup rule.Chain n = chain n
rule_lineup rule.Ref n = RoleUse ∷ []
rule_lineup rule.Irr n = RoleUse ∷ []
rule_lineup rule.Dis n = RoleUse ∷ RoleUse ∷ []
rule_lineup rule.In n = Expr ∷ Item ∷ []
rule_lineup rule.Rel n = RoleUse ∷ Item ∷ Item ∷ []
rule_lineup rule.NoRel n = RoleUse ∷ Item ∷ Item ∷ []
rule_lineup rule.Same n = Item ∷ Item ∷ []
rule_lineup rule.Differ n = Item ∷ Item ∷ []

-- what a line's fields are after its word or words, of which there are n; `rule` alone wants its word
abbrev pub lineup_of : Form → ℕ → List Due
lineup_of form.Concept n = NewConcept ∷ []
lineup_of form.Role n = NewRole ∷ []
lineup_of form.Item n = NewItem ∷ []
lineup_of (form.Statement w) n = statement_lineup w
lineup_of (form.Rule w) n = rule_lineup w n
lineup_of form.Bare n = Expr ∷ []
lineup_of form.Unknown n = Nothing ∷ []

-- what a word of an expression wants after it
abbrev pub wanted : Option Operator → List Due
wanted (Some operator.And) = Expr ∷ Expr ∷ []
wanted (Some operator.Or) = Expr ∷ Expr ∷ []
wanted (Some operator.Not) = Expr ∷ []
wanted (Some operator.Some) = RoleUse ∷ Expr ∷ []
wanted (Some operator.All) = RoleUse ∷ Expr ∷ []
wanted (Some operator.AtLeast) = AtLeast ∷ RoleUse ∷ Expr ∷ []
wanted (Some operator.AtMost) = AtMost ∷ RoleUse ∷ Expr ∷ []
wanted (Some operator.SelfOf) = RoleUse ∷ []
wanted (Some operator.One) = Item ∷ []
wanted (Some operator.Top) = []
wanted (Some operator.Bot) = []
wanted None = []

-- a word of an expression, or a concept, is due
abbrev pub is_expr : Due → Bool
is_expr NewConcept = false
is_expr NewRole = false
is_expr NewItem = false
is_expr Concept = false
is_expr Role = false
is_expr Item = false
is_expr RoleUse = false
is_expr AtLeast = false
is_expr AtMost = false
is_expr Expr = true
is_expr Nothing = false

-- what is due after the field f, in which d was due before the ds: where that was an expression, first what its word wants
abbrev pub next : Due → Field → List Due → List Due
next d f ds = cond (is_expr d) (wanted (operator_of f)) [] ++ ds

-- there is none
abbrev pub none : {A : Type 0} → List A → Bool
none [] = true
none (x ∷ xs) = false

-- the fields are exactly those that are due: none too few, none too many
unfoldable pub fits : List Due → List Field → Bool
fits [] [] = true
fits [] (f ∷ fs) = false
fits (d ∷ ds) [] = false
fits (d ∷ ds) (f ∷ fs) = fits (next d f ds) fs
