-- The form of a rule by number: refusals 3 and 4.
use Rattle.std.specs.Prelude.{◌≡◌, cond, List, ℕ, zero, suc, ◌+◌, ◌≤◌, ◌<◌, eqb, get_or}
use Rattle.store.specs.declared.Counts.{Counts}
use Rattle.store.specs.Cell.{DeclaredItem, DeclaredConcept, DeclaredRole}
use Rattle.rule.specs.declared.Node.{Node}
use Rattle.rule.specs.declared.Node.TheVariants.{Name, Top, Not, And, AtLeast, SelfOf, One}
use Rattle.rule.specs.declared.Slot.{Slot}
use Rattle.rule.specs.declared.Head.{Head}
use Rattle.rule.specs.declared.Head.TheVariants.{Sub, RoleSub, Chain, Ref, Irr, Dis, In, Rel, NoRel, Same, Differ}
use Rattle.rule.specs.declared.Rule.{Rule}

-- the limits of a rule
abbrev pub node_limit : ℕ
node_limit = 32

abbrev pub count_limit : ℕ
count_limit = 8

-- the fewest roles of a chain's path
abbrev pub shortest : ℕ
shortest = 2

-- and the most
abbrev pub longest : ℕ
longest = 4

-- the node at place i
abbrev pub node_at : List Slot → ℕ → Node
node_at ns i = (get_or ns i (record { node = Name (record { 0 = 0 }) })).node

-- 1 if the two numbers are equal
abbrev pub hit : ℕ → ℕ → ℕ
hit a j = cond (eqb a j) 1 0

-- how often a node uses node j
abbrev pub uses : Node → ℕ → ℕ
uses (Name c) j = 0
uses Top j = 0
uses (Not a) j = hit a j
uses (And a b) j = hit a j + hit b j
uses (AtLeast n u a) j = hit a j
uses (SelfOf u) j = 0
uses (One a) j = 0

-- how often the first n nodes use node j
unfoldable pub uses_below : List Slot → ℕ → ℕ → ℕ
uses_below ns j zero = 0
uses_below ns j (suc n) = uses_below ns j n + uses (node_at ns n) j

-- how often node j is a root
abbrev pub root_uses : Head → ℕ → ℕ
root_uses (Sub a b) j = hit a j + hit b j
root_uses (RoleSub r s) j = 0
root_uses (Chain k r1 r2 r3 r4 r) j = 0
root_uses (Ref r) j = 0
root_uses (Irr r) j = 0
root_uses (Dis r s) j = 0
root_uses (In a i) j = hit a j
root_uses (Rel r i i') j = 0
root_uses (NoRel r i i') j = 0
root_uses (Same i i') j = 0
root_uses (Differ i i') j = 0

-- the roots are there, and a chain's path has 2 to 4 roles
abbrev pub HeadFits : ℕ → Head → Type 0
HeadFits len (Sub a b) = (a < len) × (b < len)
HeadFits len (RoleSub r s) = Unit {0}
HeadFits len (Chain k r1 r2 r3 r4 r) = (shortest ≤ k) × (k ≤ longest)
HeadFits len (Ref r) = Unit {0}
HeadFits len (Irr r) = Unit {0}
HeadFits len (Dis r s) = Unit {0}
HeadFits len (In a i) = a < len
HeadFits len (Rel r i i') = Unit {0}
HeadFits len (NoRel r i i') = Unit {0}
HeadFits len (Same i i') = Unit {0}
HeadFits len (Differ i i') = Unit {0}

-- node i uses nodes that are there and come after it
abbrev pub UsesLater : ℕ → ℕ → Node → Type 0
UsesLater len i (Name c) = Unit {0}
UsesLater len i Top = Unit {0}
UsesLater len i (Not a) = (i < a) × (a < len)
UsesLater len i (And a b) = (i < a) × (a < len) × (i < b) × (b < len)
UsesLater len i (AtLeast n u a) = (i < a) × (a < len)
UsesLater len i (SelfOf u) = Unit {0}
UsesLater len i (One a) = Unit {0}

-- a count is 1 to 8
abbrev pub CountFits : Node → Type 0
CountFits (Name c) = Unit {0}
CountFits Top = Unit {0}
CountFits (Not a) = Unit {0}
CountFits (And a b) = Unit {0}
CountFits (AtLeast n u a) = (1 ≤ n) × (n ≤ count_limit)
CountFits (SelfOf u) = Unit {0}
CountFits (One a) = Unit {0}

-- A well-formed rule, which refusal 3 does not meet: at most 32 nodes, counts of 1 to 8, chains of 2 to 4, every use of a node that is there,
-- and every node used exactly once in all, as a root or by an earlier node.
pub record WellFormed (u : Rule) : Type 0 where
  pub short : u.len ≤ node_limit
  pub head : HeadFits u.len u.head
  pub later : (i : ℕ) → i < u.len → UsesLater u.len i (node_at u.nodes i)
  pub counts : (i : ℕ) → i < u.len → CountFits (node_at u.nodes i)
  pub once : (j : ℕ) → j < u.len → root_uses u.head j + uses_below u.nodes j u.len ≡ 1

-- the numbers of a node are below their counts
abbrev pub NodeWithin : Counts → Node → Type 0
NodeWithin n (Name c) = DeclaredConcept n c.0
NodeWithin n Top = Unit {0}
NodeWithin n (Not a) = Unit {0}
NodeWithin n (And a b) = Unit {0}
NodeWithin n (AtLeast k u a) = DeclaredRole n u.role.0
NodeWithin n (SelfOf u) = DeclaredRole n u.role.0
NodeWithin n (One a) = DeclaredItem n a.0

-- the numbers of a head are below their counts; of a chain's four roles the first k count
abbrev pub HeadWithin : Counts → Head → Type 0
HeadWithin n (Sub a b) = Unit {0}
HeadWithin n (RoleSub r s) = DeclaredRole n r.role.0 × DeclaredRole n s.role.0
HeadWithin n (Chain k r1 r2 r3 r4 r) =
    (0 < k → DeclaredRole n r1.role.0) × (1 < k → DeclaredRole n r2.role.0) × (2 < k → DeclaredRole n r3.role.0)
    × (3 < k → DeclaredRole n r4.role.0) × DeclaredRole n r.role.0
HeadWithin n (Ref r) = DeclaredRole n r.role.0
HeadWithin n (Irr r) = DeclaredRole n r.role.0
HeadWithin n (Dis r s) = DeclaredRole n r.role.0 × DeclaredRole n s.role.0
HeadWithin n (In a i) = DeclaredItem n i.0
HeadWithin n (Rel r i i') = DeclaredRole n r.role.0 × DeclaredItem n i.0 × DeclaredItem n i'.0
HeadWithin n (NoRel r i i') = DeclaredRole n r.role.0 × DeclaredItem n i.0 × DeclaredItem n i'.0
HeadWithin n (Same i i') = DeclaredItem n i.0 × DeclaredItem n i'.0
HeadWithin n (Differ i i') = DeclaredItem n i.0 × DeclaredItem n i'.0

-- A rule whose numbers are below their counts, which refusal 4 does not meet.
pub record RuleWithin (n : Counts) (u : Rule) : Type 0 where
  pub head : HeadWithin n u.head
  pub nodes : (i : ℕ) → i < u.len → NodeWithin n (node_at u.nodes i)
