-- What is kept of a rule while its findings are sought: its head, and the rows of what its roots hold of. And the places of its findings:
-- for a pair rule the place of (x, y) is y in the row of x; for a rule about one item it is 0 in the row of x.
use Rattle.std.specs.Prelude.{◌≡◌, Bool, true, false, List, ℕ, ◌<◌, Option, Some, None}
use Rattle.row.specs.own.Row.{RowHas}
use Rattle.row.specs.own.Pick.{Marks}
use Rattle.store.specs.declared.Counts.{Counts}
use Rattle.store.specs.Cell.{Cell, DeclaredItem}
use Rattle.rule.specs.declared.Head.{Head}
use Rattle.rule.specs.declared.Head.TheVariants.{Sub, RoleSub, Chain, Ref, Irr, Dis, In, Rel, NoRel, Same, Differ}
use Rattle.breach.specs.declared.Plan.{Plan}
use Rattle.rule.specs.declared.Rule.{Rule}
use Rattle.rule.specs.Second.{Second}
use Rattle.rule.specs.declared.Slot.{Slot}
use Rattle.rule.specs.Expr.{expr_of}
use Rattle.rule.specs.Meaning.{Linked, HoldsOf}
use Rattle.rule.specs.Breaks.{BreaksPair}

-- whether a rule is broken by pairs
abbrev pub is_pair : Head → Bool
is_pair (Sub a b) = false
is_pair (RoleSub r s) = true
is_pair (Chain k r1 r2 r3 r4 r) = true
is_pair (Ref r) = false
is_pair (Irr r) = false
is_pair (Dis r s) = true
is_pair (In a i) = false
is_pair (Rel r i i') = true
is_pair (NoRel r i i') = true
is_pair (Same i i') = true
is_pair (Differ i i') = true

-- whether a rule is broken by what its left root holds of and its right root does not
abbrev pub is_sub : Head → Bool
is_sub (Sub a b) = true
is_sub (RoleSub r s) = false
is_sub (Chain k r1 r2 r3 r4 r) = false
is_sub (Ref r) = false
is_sub (Irr r) = false
is_sub (Dis r s) = false
is_sub (In a i) = false
is_sub (Rel r i i') = false
is_sub (NoRel r i i') = false
is_sub (Same i i') = false
is_sub (Differ i i') = false

-- the second item at place y
abbrev pub second_if : Bool → ℕ → Second
second_if false y = None
second_if true y = Some (record { 0 = y })

-- the same of a rule
abbrev pub second_at : Head → ℕ → Second
second_at h y = second_if (is_pair h) y

-- the place of a second item
abbrev pub place_of : Second → ℕ
place_of None = 0
place_of (Some y) = y.0

-- the left root of a rule: the number of its node, if it has one
abbrev pub left_root : Head → Option ℕ
left_root (Sub a b) = Some a
left_root (RoleSub r s) = None
left_root (Chain k r1 r2 r3 r4 r) = None
left_root (Ref r) = None
left_root (Irr r) = None
left_root (Dis r s) = None
left_root (In a i) = Some a
left_root (Rel r i i') = None
left_root (NoRel r i i') = None
left_root (Same i i') = None
left_root (Differ i i') = None

-- the right root of a rule, in the same way
abbrev pub right_root : Head → Option ℕ
right_root (Sub a b) = Some b
right_root (RoleSub r s) = None
right_root (Chain k r1 r2 r3 r4 r) = None
right_root (Ref r) = None
right_root (Irr r) = None
right_root (Dis r s) = None
right_root (In a i) = None
right_root (Rel r i i') = None
right_root (NoRel r i i') = None
right_root (Same i i') = None
right_root (Differ i i') = None

-- the row marks what a root holds of; where there is no root it may be any
abbrev pub RootRow : (Cell → Type 0) → Counts → List Slot → Option ℕ → List ℕ → Type 0
RootRow C n ns None p = Unit {0}
RootRow C n ns (Some a) p = Marks n.items p (HoldsOf C n (expr_of ns a))

-- the plan of a rule
pub record Planned (C : Cell → Type 0) (n : Counts) (u : Rule) (p : Plan) : Type 0 where
  pub head : p.head ≡ u.head
  pub left : RootRow C n u.nodes (left_root u.head) p.left
  pub right : RootRow C n u.nodes (right_root u.head) p.right

-- the rules that are broken by one item, where L and R are what the roots hold of
abbrev pub BreaksBy : (Cell → Type 0) → (ℕ → Type 0) → (ℕ → Type 0) → Head → ℕ → Type 0
BreaksBy C L R (Sub a b) x = L x × ¬ (R x)
BreaksBy C L R (RoleSub r s) x = ⊥
BreaksBy C L R (Chain k r1 r2 r3 r4 r) x = ⊥
BreaksBy C L R (Ref r) x = ¬ (Linked C r x x)
BreaksBy C L R (Irr r) x = Linked C r x x
BreaksBy C L R (Dis r s) x = ⊥
BreaksBy C L R (In a i) x = (x ≡ i.0) × ¬ (L x)
BreaksBy C L R (Rel r i i') x = ⊥
BreaksBy C L R (NoRel r i i') x = ⊥
BreaksBy C L R (Same i i') x = ⊥
BreaksBy C L R (Differ i i') x = ⊥

-- a plan's rule is broken by x, alone or with a second item, over declared items only
unfoldable pub PlanBreaks : (Cell → Type 0) → Counts → Plan → ℕ → Second → Type 0
PlanBreaks C n p x None = DeclaredItem n x × BreaksBy C (RowHas p.left) (RowHas p.right) p.head x
PlanBreaks C n p x (Some y) = DeclaredItem n x × DeclaredItem n y.0 × BreaksPair C n p.head x y.0

-- place y in the row of x is one of a finding
abbrev pub PlaceIf : (Cell → Type 0) → Counts → Plan → ℕ → Bool → ℕ → Type 0
PlaceIf C n p x false y = (y ≡ 0) × BreaksBy C (RowHas p.left) (RowHas p.right) p.head x
PlaceIf C n p x true y = BreaksPair C n p.head x y

-- the same of the plan's own rule
abbrev pub PlaceBreaks : (Cell → Type 0) → Counts → Plan → ℕ → ℕ → Type 0
PlaceBreaks C n p x y = PlaceIf C n p x (is_pair p.head) y

-- the row r marks what is as P says, if the row `on` has a number below n
abbrev pub Beside : ℕ → List ℕ → List ℕ → (ℕ → Type 0) → Type 0
Beside n on r P = (y : ℕ) → y < n → RowHas on y → Marks n r P
