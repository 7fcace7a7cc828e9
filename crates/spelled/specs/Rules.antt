-- A rule as 173 words: what include/saltreeve.h says of them.
use Rattle.std.specs.Prelude.{cond, not, List, [], ◌∷◌, ◌++◌, ℕ, zero, suc, ◌+◌, ◌*◌, eqb, get_or, length}
use Rattle.store.specs.declared.Item.{Item}
use Rattle.rule.specs.declared.Head.{Head}
use Rattle.rule.specs.declared.Head.TheVariants.{Sub, RoleSub, Chain, Ref, Irr, Dis, In, Rel, NoRel, Same, Differ}
use Rattle.rule.specs.declared.Node.{Node}
use Rattle.rule.specs.declared.Node.TheVariants.{Name, Top, Not, And, AtLeast, SelfOf, One}
use Rattle.rule.specs.declared.RoleUse.{RoleUse}
use Rattle.rule.specs.declared.Rule.{Rule}
use Rattle.rule.specs.declared.Slot.{Slot}
use Rattle.rule.specs.Form.{node_limit}

-- the place of the number of nodes, the place where the nodes begin, and the words of a node
abbrev pub count_place : ℕ
count_place = 12

abbrev pub first_place : ℕ
first_place = 13

abbrev pub node_words : ℕ
node_words = 5

-- the number of words of a rule: 173
abbrev pub rule_words : ℕ
rule_words = first_place + node_words * node_limit

-- the word at place i, 0 past the end
abbrev pub word : List ℕ → ℕ → ℕ
word g i = get_or g i 0

-- the item at word i
abbrev pub item_at : List ℕ → ℕ → Item
item_at g i = record { 0 = word g i }

-- the role at word i, or its inverse if the next word is not 0
abbrev pub role_use_at : List ℕ → ℕ → RoleUse
role_use_at g i = record { role = record { 0 = word g i }; inverse = not (eqb (word g (i + 1)) 0) }

-- the node of no kind: one that uses a node before it, so that a rule that counts it is malformed (laws/Rules: other-node)
abbrev pub no_node : Node
no_node = Not 0

-- the node whose words begin at word i
unfoldable pub node_of : List ℕ → ℕ → Node
node_of g i =
    cond (eqb (word g i) 0) (Name (record { 0 = word g (i + 1) }))
    (cond (eqb (word g i) 1) Top
    (cond (eqb (word g i) 2) (Not (word g (i + 1)))
    (cond (eqb (word g i) 3) (And (word g (i + 1)) (word g (i + 2)))
    (cond (eqb (word g i) 4) (AtLeast (word g (i + 1)) (role_use_at g (i + 2)) (word g (i + 4)))
    (cond (eqb (word g i) 5) (SelfOf (role_use_at g (i + 1)))
    (cond (eqb (word g i) 6) (One (item_at g (i + 1)))
    no_node))))))

-- the head of no kind: its roots are not there, so that the rule is malformed (laws/Rules: other-kind, other-length)
abbrev pub no_head : Head
no_head = Sub node_limit node_limit

-- the head of a chain
abbrev pub chain_of : List ℕ → Head
chain_of g = Chain (word g 1) (role_use_at g 2) (role_use_at g 4) (role_use_at g 6) (role_use_at g 8) (role_use_at g 10)

-- the head of a rule, by its kind
unfoldable pub kind_of : List ℕ → Head
kind_of g =
    cond (eqb (word g 0) 0) (Sub (word g 1) (word g 2))
    (cond (eqb (word g 0) 1) (RoleSub (role_use_at g 1) (role_use_at g 3))
    (cond (eqb (word g 0) 2) (chain_of g)
    (cond (eqb (word g 0) 3) (Ref (role_use_at g 1))
    (cond (eqb (word g 0) 4) (Irr (role_use_at g 1))
    (cond (eqb (word g 0) 5) (Dis (role_use_at g 1) (role_use_at g 3))
    (cond (eqb (word g 0) 6) (In (word g 1) (item_at g 2))
    (cond (eqb (word g 0) 7) (Rel (role_use_at g 1) (item_at g 3) (item_at g 4))
    (cond (eqb (word g 0) 8) (NoRel (role_use_at g 1) (item_at g 3) (item_at g 4))
    (cond (eqb (word g 0) 9) (Same (item_at g 1) (item_at g 2))
    (cond (eqb (word g 0) 10) (Differ (item_at g 1) (item_at g 2))
    no_head))))))))))

-- words of another length have the head of no kind
unfoldable pub head_of : List ℕ → Head
head_of g = cond (eqb (length g) rule_words) (kind_of g) no_head

-- the first n nodes of a rule
unfoldable pub nodes_below : List ℕ → ℕ → List Slot
nodes_below g zero = []
nodes_below g (suc n) = nodes_below g n ++ record { node = node_of g (first_place + node_words * n) } ∷ []

-- the rule that the words say
abbrev pub rule_of : List ℕ → Rule
rule_of g = record { head = head_of g; len = word g count_place; nodes = nodes_below g node_limit }
