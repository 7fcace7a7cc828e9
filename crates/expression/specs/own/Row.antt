-- What a node's row marks, from its children's rows.
use Rattle.std.specs.Prelude.{Bool, true, false, not, ℕ}
use Rattle.store.specs.declared.Counts.{Counts}
use Rattle.store.specs.Cell.{Cell}
use Rattle.store.specs.Cell.Cell.{Same as SameCell, In as InCell}
use Rattle.rule.specs.declared.RoleUse.{RoleUse}
use Rattle.rule.specs.declared.Node.{Node}
use Rattle.rule.specs.declared.Node.TheVariants.{Name, Top, Not, And, AtLeast, SelfOf, One}
use Rattle.rule.specs.Meaning.{Linked, Articles}

-- b has the property P and is linked from x
abbrev pub Found : (Cell → Type 0) → RoleUse → (ℕ → Type 0) → ℕ → ℕ → Type 0
Found C u P x b = Linked C u x b × P b

-- the role for its inverse, and the inverse for the role
abbrev pub turned : RoleUse → RoleUse
turned u = record { role = u.role; inverse = not u.inverse }

-- whether a node has a child
abbrev pub has_first : Node → Bool
has_first (Name c) = false
has_first Top = false
has_first (Not a) = true
has_first (And a b) = true
has_first (AtLeast k u a) = true
has_first (SelfOf u) = false
has_first (One a) = false

-- whether it has a second one
abbrev pub has_second : Node → Bool
has_second (Name c) = false
has_second Top = false
has_second (Not a) = false
has_second (And a b) = true
has_second (AtLeast k u a) = false
has_second (SelfOf u) = false
has_second (One a) = false

-- the first child, or 0
abbrev pub first_child : Node → ℕ
first_child (Name c) = 0
first_child Top = 0
first_child (Not a) = a
first_child (And a b) = a
first_child (AtLeast k u a) = a
first_child (SelfOf u) = 0
first_child (One a) = 0

-- the second child, or 0
abbrev pub second_child : Node → ℕ
second_child (Name c) = 0
second_child Top = 0
second_child (Not a) = 0
second_child (And a b) = b
second_child (AtLeast k u a) = 0
second_child (SelfOf u) = 0
second_child (One a) = 0

-- what a node holds of, where P and Q are what its children hold of
abbrev pub NodeHolds : (Cell → Type 0) → Counts → Node → (ℕ → Type 0) → (ℕ → Type 0) → ℕ → Type 0
NodeHolds C n (Name c) P Q x = C (InCell x c.0)
NodeHolds C n Top P Q x = Unit {0}
NodeHolds C n (Not a) P Q x = ¬ (P x)
NodeHolds C n (And a b) P Q x = P x × Q x
NodeHolds C n (AtLeast k u a) P Q x = Articles C n k (λ b. Linked C u x b × P b)
NodeHolds C n (SelfOf u) P Q x = Linked C u x x
NodeHolds C n (One a) P Q x = C (SameCell x a.0)
