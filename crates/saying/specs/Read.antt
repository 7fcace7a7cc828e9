-- Concept expressions and rules, read from fields whose names are declared.
use Rattle.std.specs.Prelude.{Option, Some, None}
use Rattle.std.specs.Prelude.{List, [], ◌∷◌, ◌++◌, map, ℕ, zero, suc, ◌+◌, ◌-◌, length, drop, replicate}
use Rattle.std.proofs.lemmas.List.Edits.{sets}
use Rattle.rule.specs.declared.Head.{Head}
use Rattle.rule.specs.declared.Head.TheVariants as head
use Rattle.rule.specs.declared.Node.{Node}
use Rattle.rule.specs.declared.Node.TheVariants as node
use Rattle.rule.specs.declared.Rule.{Rule}
use Rattle.rule.specs.declared.Slot.{Slot}
use Rattle.rule.specs.Expr.{Expr, bot, either, some, every, at_most}
use Rattle.rule.specs.Expr.Expr.{name, top, neg, both, many, own, one}
use Rattle.rule.specs.Form.{node_limit}
use Rattle.field.specs.declared.Operator.{Operator}
use Rattle.field.specs.declared.Operator.TheVariants as operator
use Rattle.field.specs.declared.RuleWord.{RuleWord}
use Rattle.field.specs.declared.RuleWord.TheVariants as rule
use Rattle.field.specs.Names.{Names, count_of}
use Rattle.field.specs.Words.{Field, at, operator_of}
use Rattle.stated.specs.Stated.{concept_of, item_of, role_use_of}

-- an expression, and the fields after it
pub record Read : Type 0 where
  pub expr : Expr
  pub rest : List Field

-- one made of the next one, and of the next two, where `more` reads an expression
abbrev pub of_one : (Expr → Expr) → (List Field → Read) → List Field → Read
of_one g more fs = record { expr = g (more fs).expr; rest = (more fs).rest }

abbrev pub of_two : (Expr → Expr → Expr) → (List Field → Read) → List Field → Read
of_two g more fs = record { expr = g (more fs).expr (more (more fs).rest).expr; rest = (more (more fs).rest).rest }

-- the expression that begins with the field f, by its word; the fs are the fields after it
abbrev pub by_word : Names → (List Field → Read) → Option Operator → Field → List Field → Read
by_word n more (Some operator.And) f fs = of_two both more fs
by_word n more (Some operator.Or) f fs = of_two either more fs
by_word n more (Some operator.Not) f fs = of_one neg more fs
by_word n more (Some operator.Some) f fs = of_one (some (role_use_of n (at 0 fs))) more (drop 1 fs)
by_word n more (Some operator.All) f fs = of_one (every (role_use_of n (at 0 fs))) more (drop 1 fs)
by_word n more (Some operator.AtLeast) f fs = of_one (many (count_of (at 0 fs)) (role_use_of n (at 1 fs))) more (drop 2 fs)
by_word n more (Some operator.AtMost) f fs = of_one (at_most (count_of (at 0 fs)) (role_use_of n (at 1 fs))) more (drop 2 fs)
by_word n more (Some operator.SelfOf) f fs = record { expr = own (role_use_of n (at 0 fs)); rest = drop 1 fs }
by_word n more (Some operator.One) f fs = record { expr = one (item_of n (at 0 fs)); rest = drop 1 fs }
by_word n more (Some operator.Top) f fs = record { expr = top; rest = fs }
by_word n more (Some operator.Bot) f fs = record { expr = bot; rest = fs }
by_word n more None f fs = record { expr = name (concept_of n f); rest = fs }

-- the expression in prefix order that the fields begin with, read at most `left` words deep
unfoldable pub read : ℕ → Names → List Field → Read
read zero n fs = record { expr = top; rest = fs }
read (suc left) n fs = by_word n (read left n) (operator_of (at 0 fs)) (at 0 fs) (drop 1 fs)

-- the same as deep as there are fields
abbrev pub read_expr : Names → List Field → Read
read_expr n fs = read (length fs) n fs

-- ---- how a rule is laid out as nodes. From here to the end of `rule_of` no belief is needed: the rule of an accepted line means what its fields mean (Meant.antt; proved in laws/Meant.antt, rule-meant)

-- how many nodes an expression has
unfoldable pub size : Expr → ℕ
size (name c) = 1
size top = 1
size (neg c) = 1 + size c
size (both c d) = 1 + size c + size d
size (many k u c) = 1 + size c
size (own u) = 1
size (one a) = 1

-- its nodes in prefix order, the first of them at a place
unfoldable pub nodes_at : ℕ → Expr → List Node
nodes_at i (name c) = node.Name c ∷ []
nodes_at i top = node.Top ∷ []
nodes_at i (neg c) = node.Not (i + 1) ∷ nodes_at (i + 1) c
nodes_at i (both c d) = node.And (i + 1) (i + 1 + size c) ∷ nodes_at (i + 1) c ++ nodes_at (i + 1 + size c) d
nodes_at i (many k u c) = node.AtLeast k u (i + 1) ∷ nodes_at (i + 1) c
nodes_at i (own u) = node.SelfOf u ∷ []
nodes_at i (one a) = node.One a ∷ []

-- a node in its place
abbrev pub slot : Node → Slot
slot x = record { node = x }

-- places without nodes
abbrev pub blank : List Slot
blank = replicate node_limit (slot node.Top)

-- the nodes in the first places
abbrev pub laid : List Node → List Slot
laid ns = sets blank 0 (map slot ns)

-- a rule without expressions, with one, with two
abbrev pub bare : Head → Rule
bare h = record { head = h; len = 0; nodes = blank }

abbrev pub with_one : (ℕ → Head) → Expr → Rule
with_one h c = record { head = h 0; len = size c; nodes = laid (nodes_at 0 c) }

abbrev pub with_two : (ℕ → ℕ → Head) → Expr → Expr → Rule
with_two h c d = record { head = h 0 (size c); len = size c + size d; nodes = laid (nodes_at 0 c ++ nodes_at (size c) d) }

-- a chain of 3 to 5 roles: the path, and the last one
abbrev pub chain_of : Names → List Field → Head
chain_of n fs =
    head.Chain (length fs - 1) (role_use_of n (at 0 fs)) (role_use_of n (at 1 fs)) (role_use_of n (at 2 fs)) (role_use_of n (at 3 fs)) (role_use_of n (at (length fs - 1) fs))

-- the rule that the fields after the rule word say
abbrev pub rule_of : Names → RuleWord → List Field → Rule
rule_of n rule.Sub fs = with_two head.Sub (read_expr n fs).expr (read_expr n (read_expr n fs).rest).expr
rule_of n rule.RoleSub fs = bare (head.RoleSub (role_use_of n (at 0 fs)) (role_use_of n (at 1 fs)))
rule_of n rule.Chain fs = bare (chain_of n fs)
rule_of n rule.Ref fs = bare (head.Ref (role_use_of n (at 0 fs)))
rule_of n rule.Irr fs = bare (head.Irr (role_use_of n (at 0 fs)))
rule_of n rule.Dis fs = bare (head.Dis (role_use_of n (at 0 fs)) (role_use_of n (at 1 fs)))
rule_of n rule.In fs = with_one (λ c. head.In c (item_of n (at 0 (read_expr n fs).rest))) (read_expr n fs).expr
rule_of n rule.Rel fs = bare (head.Rel (role_use_of n (at 0 fs)) (item_of n (at 1 fs)) (item_of n (at 2 fs)))
rule_of n rule.NoRel fs = bare (head.NoRel (role_use_of n (at 0 fs)) (item_of n (at 1 fs)) (item_of n (at 2 fs)))
rule_of n rule.Same fs = bare (head.Same (item_of n (at 0 fs)) (item_of n (at 1 fs)))
rule_of n rule.Differ fs = bare (head.Differ (item_of n (at 0 fs)) (item_of n (at 1 fs)))
