-- The declared names, and what is wrong with a field.
use Rattle.std.specs.Prelude.{Option, Some, None}
use Rattle.std.specs.Prelude.{Bool, false, cond, not, List, [], ◌∷◌, ℕ, ◌+◌, ◌-◌, min, leb, ltb, eqb, length, get_or, drop}
use Rattle.text.specs.Bytes.{between, place}
use Rattle.text.specs.Date.{date_shaped, digit}
use Rattle.text.specs.Name.{is_name}
use Rattle.store.specs.Layout.{concept_limit, role_limit}
use Rattle.store.specs.declared.Counts.{Counts}
use Rattle.rule.specs.Form.{count_limit}
use Rattle.field.specs.declared.Due.{Due}
use Rattle.field.specs.declared.Due.TheVariants.{NewConcept, NewRole, NewItem, Concept, Role, Item, RoleUse, AtLeast, AtMost, Expr, Nothing}
use Rattle.field.specs.declared.Operator.{Operator}
use Rattle.field.specs.declared.Operator.TheVariants as operator
use Rattle.field.specs.Due.{is_expr, next}
use Rattle.field.specs.Words.{Field, operator_of, operator_words, spellings}

-- the names declared so far, of each kind in order of declaration, and how many items the sheet's edition has room for
pub record Names : Type 0 where
  pub concepts : List Field
  pub roles : List Field
  pub items : List Field
  pub room : ℕ

-- how many they are
abbrev pub counts_of : Names → Counts
counts_of n = record { items = length n.items; concepts = length n.concepts; roles = length n.roles }

-- the name is one of the list
abbrev pub declared : Field → List Field → Bool
declared f names = ltb (place f names) (length names)

-- the field is one of the eleven words of expressions
abbrev pub reserved : Field → Bool
reserved f = declared f (spellings operator_words)

-- `~` stands before the role
abbrev pub inverted : Field → Bool
inverted f = eqb (get_or f 0 0) 126

-- the role's name without it
abbrev pub plain : Field → Field
plain f = cond (inverted f) (drop 1 f) f

-- a count is one digit; its value
abbrev pub count_of : Field → ℕ
count_of f = digit (get_or f 0 0)

abbrev pub is_count : ℕ → ℕ → Field → Bool
is_count least most f = cond (eqb (length f) 1) (between least (count_of f) most) false

-- the number of refusal, where the test says so, and otherwise what else is wrong; 0 is nothing
abbrev pub fault : Bool → ℕ → ℕ → ℕ
fault test number rest = cond test number rest

-- a name that is to be declared, beside those declared, of which there is room for so many
unfoldable pub new_fault : ℕ → List Field → Field → ℕ
new_fault room names f = fault (declared f names) 17 (fault (leb room (length names)) 18 0)

-- a name that is to be one of those declared
unfoldable pub name_fault : List Field → Field → ℕ
name_fault names f = fault (not (is_name f)) 15 (fault (not (declared f names)) 19 0)

-- what is wrong with a field in which d is due: the lowest number that applies, or 0
unfoldable pub field_fault : Names → Due → Field → ℕ
field_fault n NewConcept f = fault (not (is_name f)) 15 (fault (reserved f) 15 (new_fault concept_limit n.concepts f))
field_fault n NewRole f = fault (not (is_name f)) 15 (new_fault role_limit n.roles f)
field_fault n NewItem f = fault (not (is_name f)) 15 (fault (date_shaped f) 16 (new_fault n.room n.items f))
field_fault n Concept f = fault (reserved f) 15 (name_fault n.concepts f)
field_fault n Role f = name_fault n.roles f
field_fault n Item f = name_fault n.items f
field_fault n RoleUse f = name_fault n.roles (plain f)
field_fault n AtLeast f = fault (not (is_count 1 count_limit f)) 20 0
field_fault n AtMost f = fault (not (is_count 0 (count_limit - 1) f)) 20 0
field_fault n Expr f = cond (reserved f) 0 (name_fault n.concepts f)
field_fault n Nothing f = 0

-- the lower of two numbers of refusal; 0 is none
unfoldable pub lower_fault : ℕ → ℕ → ℕ
lower_fault a b = cond (eqb a 0) b (cond (eqb b 0) a (min a b))

-- the lowest number that applies to one of the fields, or 0
unfoldable pub field_faults : Names → List Due → List Field → ℕ
field_faults n ds [] = 0
field_faults n [] (f ∷ fs) = 0
field_faults n (d ∷ ds) (f ∷ fs) = lower_fault (field_fault n d f) (field_faults n (next d f ds) fs)

-- the nodes that a word of an expression stands for after short forms are expanded; those that it wants after it are counted at their own words
abbrev pub nodes_of : Option Operator → ℕ
nodes_of (Some operator.And) = 1
nodes_of (Some operator.Or) = 4
nodes_of (Some operator.Not) = 1
nodes_of (Some operator.Some) = 1
nodes_of (Some operator.All) = 3
nodes_of (Some operator.AtLeast) = 1
nodes_of (Some operator.AtMost) = 2
nodes_of (Some operator.SelfOf) = 1
nodes_of (Some operator.One) = 1
nodes_of (Some operator.Top) = 1
nodes_of (Some operator.Bot) = 2
nodes_of None = 1

-- the nodes of all the fields
unfoldable pub nodes_in : List Due → List Field → ℕ
nodes_in ds [] = 0
nodes_in [] (f ∷ fs) = 0
nodes_in (d ∷ ds) (f ∷ fs) = cond (is_expr d) (nodes_of (operator_of f)) 0 + nodes_in (next d f ds) fs
