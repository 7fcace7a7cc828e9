-- The reader's own records of an expression's nodes: what a word writes at once.
use Rattle.std.specs.Prelude.{Option, Some, None}
use Rattle.std.specs.Prelude.{◌≡◌, true, List, [], ◌∷◌, map, ℕ, ◌+◌, ◌≤◌, drop, length, set}
use Rattle.std.proofs.lemmas.List.Edits.{sets}
use Rattle.rule.specs.Form.{node_limit}
use Rattle.field.specs.declared.Due.{Due}
use Rattle.field.specs.declared.Due.TheVariants as due
use Rattle.field.specs.declared.RuleWord.{RuleWord}
use Rattle.field.specs.Due.{fits, rule_lineup}
use Rattle.rule.specs.declared.Node.{Node}
use Rattle.rule.specs.declared.Slot.{Slot}
use Rattle.rule.specs.declared.Node.TheVariants as node
use Rattle.field.specs.declared.Operator.{Operator}
use Rattle.field.specs.declared.Operator.TheVariants as operator
use Rattle.saying.specs.declared.Parsed.{Parsed}
use Rattle.field.specs.Names.{Names, count_of, nodes_in}
use Rattle.field.specs.Words.{at, Field}
use Rattle.saying.specs.Read.{nodes_at, read, size, slot}
use Rattle.stated.specs.Stated.{concept_of, item_of, role_use_of}

-- the nodes xs stand in the room after so many others, and r is how many there are then
pub record PutAll (room : List Slot) (len : ℕ) (xs : List Node) (exit : List Slot) (r : ℕ) : Type 0 where
  pub here : exit ≡ sets room len (map slot xs)
  pub count : r ≡ len + length xs

-- the nodes that the word o, the first of the fields, stands for, the first at the place i; the second child of an `and` is filled in later
abbrev pub head_nodes : Names → Option Operator → ℕ → List Field → List Node
head_nodes n (Some operator.And) i fs = node.And (i + 1) 0 ∷ []
head_nodes n (Some operator.Or) i fs = node.Not (i + 1) ∷ node.And (i + 2) 0 ∷ node.Not (i + 3) ∷ []
head_nodes n (Some operator.Not) i fs = node.Not (i + 1) ∷ []
head_nodes n (Some operator.Some) i fs = node.AtLeast 1 (role_use_of n (at 1 fs)) (i + 1) ∷ []
head_nodes n (Some operator.All) i fs = node.Not (i + 1) ∷ node.AtLeast 1 (role_use_of n (at 1 fs)) (i + 2) ∷ node.Not (i + 3) ∷ []
head_nodes n (Some operator.AtLeast) i fs = node.AtLeast (count_of (at 1 fs)) (role_use_of n (at 2 fs)) (i + 1) ∷ []
head_nodes n (Some operator.AtMost) i fs = node.Not (i + 1) ∷ node.AtLeast (count_of (at 1 fs) + 1) (role_use_of n (at 2 fs)) (i + 2) ∷ []
head_nodes n (Some operator.SelfOf) i fs = node.SelfOf (role_use_of n (at 1 fs)) ∷ []
head_nodes n (Some operator.One) i fs = node.One (item_of n (at 1 fs)) ∷ []
head_nodes n (Some operator.Top) i fs = node.Top ∷ []
head_nodes n (Some operator.Bot) i fs = node.Not (i + 1) ∷ node.Top ∷ []
head_nodes n None i fs = node.Name (concept_of n (at 0 fs)) ∷ []

-- how many fields the word takes with it, itself counted
abbrev pub head_fields : Option Operator → ℕ
head_fields (Some operator.And) = 1
head_fields (Some operator.Or) = 1
head_fields (Some operator.Not) = 1
head_fields (Some operator.Some) = 2
head_fields (Some operator.All) = 2
head_fields (Some operator.AtLeast) = 3
head_fields (Some operator.AtMost) = 3
head_fields (Some operator.SelfOf) = 2
head_fields (Some operator.One) = 2
head_fields (Some operator.Top) = 1
head_fields (Some operator.Bot) = 1
head_fields None = 1

-- how many expressions it wants after that
abbrev pub children_of : Option Operator → ℕ
children_of (Some operator.And) = 2
children_of (Some operator.Or) = 2
children_of (Some operator.Not) = 1
children_of (Some operator.Some) = 1
children_of (Some operator.All) = 1
children_of (Some operator.AtLeast) = 1
children_of (Some operator.AtMost) = 1
children_of (Some operator.SelfOf) = 0
children_of (Some operator.One) = 0
children_of (Some operator.Top) = 0
children_of (Some operator.Bot) = 0
children_of None = 0

-- the `and` at the place i gets its second child: the next node
abbrev pub fill_and : List Slot → ℕ → ℕ → List Slot
fill_and nodes i len = set nodes i (slot (node.And (i + 1) len))

-- what stands before the second child of the word o, whose nodes begin at i: its `and`, of an `or` the one further, is filled in, and an `or` has one node more
abbrev pub Joined : Option Operator → List Slot → ℕ → ℕ → List Slot → ℕ → Type 0
Joined (Some operator.And) nodes i len exit r = PutAll (fill_and nodes i len) len [] exit r
Joined (Some operator.Or) nodes i len exit r = PutAll (fill_and nodes (i + 1) len) len (node.Not (len + 1) ∷ []) exit r
Joined (Some operator.Not) nodes i len exit r = PutAll nodes len [] exit r
Joined (Some operator.Some) nodes i len exit r = PutAll nodes len [] exit r
Joined (Some operator.All) nodes i len exit r = PutAll nodes len [] exit r
Joined (Some operator.AtLeast) nodes i len exit r = PutAll nodes len [] exit r
Joined (Some operator.AtMost) nodes i len exit r = PutAll nodes len [] exit r
Joined (Some operator.SelfOf) nodes i len exit r = PutAll nodes len [] exit r
Joined (Some operator.One) nodes i len exit r = PutAll nodes len [] exit r
Joined (Some operator.Top) nodes i len exit r = PutAll nodes len [] exit r
Joined (Some operator.Bot) nodes i len exit r = PutAll nodes len [] exit r
Joined None nodes i len exit r = PutAll nodes len [] exit r

-- the expression that the fields fs go on with at p is read, at most `left` words deep: its nodes stand in the room after the others, and r is past it
pub record ReadsOne (n : Names) (fs : List Field) (left : ℕ) (p : Parsed) (room exit : List Slot) (r : Parsed) : Type 0 where
  pub nodes : exit ≡ sets room p.len (map slot (nodes_at p.len (read left n (drop p.at fs)).expr))
  pub len : r.len ≡ p.len + size (read left n (drop p.at fs)).expr
  pub rest : drop r.at fs ≡ (read left n (drop p.at fs)).rest

-- the fields fs begin with an expression, for whose nodes there is room after so many, and which is not deeper than `left` words
pub record Ready (fs : List Field) (len left : ℕ) : Type 0 where
  pub dues : List Due
  pub fit : fits (due.Expr ∷ dues) fs ≡ true
  pub room : len + nodes_in (due.Expr ∷ dues) fs ≤ node_limit
  pub enough : length fs ≤ left

-- the fields after a rule word are those that are due, with no more nodes than a rule may have
pub record RuleReady (w : RuleWord) (fs : List Field) : Type 0 where
  pub fit : fits (rule_lineup w (length fs)) fs ≡ true
  pub room : nodes_in (rule_lineup w (length fs)) fs ≤ node_limit
