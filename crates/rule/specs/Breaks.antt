-- What breaks a rule: document 01's table, a line a row. x is the first item; the second is y, or none.
use Rattle.std.specs.Prelude.{◌≡◌, List, [], ◌∷◌, ℕ, take}
use Rattle.store.specs.declared.Counts.{Counts}
use Rattle.store.specs.Cell.{Cell, DeclaredItem}
use Rattle.store.specs.Cell.Cell.{Same as SameCell}
use Rattle.rule.specs.declared.Head.{Head}
use Rattle.rule.specs.declared.Head.TheVariants.{Sub, RoleSub, Chain, Ref, Irr, Dis, In, Rel, NoRel, Same, Differ}
use Rattle.rule.specs.declared.Rule.{Rule}
use Rattle.rule.specs.declared.RoleUse.{RoleUse}
use Rattle.rule.specs.Second.{Second}
use Rattle.std.specs.Prelude.{None, Some}
use Rattle.rule.specs.declared.Slot.{Slot}
use Rattle.rule.specs.Expr.{expr_of}
use Rattle.rule.specs.Meaning.{Linked, HoldsOf}

-- x and y are joined by a path of the roles, over declared items
abbrev pub Path : (Cell → Type 0) → Counts → List RoleUse → ℕ → ℕ → Type 0
Path C n [] x y = x ≡ y
Path C n (r ∷ rs) x y = (z : ℕ) × DeclaredItem n z × Linked C r x z × Path C n rs z y

-- the rules that are broken by one item
abbrev pub BreaksAlone : (Cell → Type 0) → Counts → List Slot → Head → ℕ → Type 0
BreaksAlone C n ns (Sub c d) x = HoldsOf C n (expr_of ns c) x × ¬ (HoldsOf C n (expr_of ns d) x)
BreaksAlone C n ns (RoleSub r s) x = ⊥
BreaksAlone C n ns (Chain k r1 r2 r3 r4 r) x = ⊥
BreaksAlone C n ns (Ref r) x = ¬ (Linked C r x x)
BreaksAlone C n ns (Irr r) x = Linked C r x x
BreaksAlone C n ns (Dis r s) x = ⊥
BreaksAlone C n ns (In c a) x = (x ≡ a.0) × ¬ (HoldsOf C n (expr_of ns c) x)
BreaksAlone C n ns (Rel r a b) x = ⊥
BreaksAlone C n ns (NoRel r a b) x = ⊥
BreaksAlone C n ns (Same a b) x = ⊥
BreaksAlone C n ns (Differ a b) x = ⊥

-- the rules that are broken by a pair
abbrev pub BreaksPair : (Cell → Type 0) → Counts → Head → ℕ → ℕ → Type 0
BreaksPair C n (Sub c d) x y = ⊥
BreaksPair C n (RoleSub r s) x y = Linked C r x y × ¬ (Linked C s x y)
BreaksPair C n (Chain k r1 r2 r3 r4 r) x y = Path C n (take k (r1 ∷ r2 ∷ r3 ∷ r4 ∷ [])) x y × ¬ (Linked C r x y)
BreaksPair C n (Ref r) x y = ⊥
BreaksPair C n (Irr r) x y = ⊥
BreaksPair C n (Dis r s) x y = Linked C r x y × Linked C s x y
BreaksPair C n (In c a) x y = ⊥
BreaksPair C n (Rel r a b) x y = (x ≡ a.0) × (y ≡ b.0) × ¬ (Linked C r x y)
BreaksPair C n (NoRel r a b) x y = (x ≡ a.0) × (y ≡ b.0) × Linked C r x y
BreaksPair C n (Same a b) x y = (x ≡ a.0) × (y ≡ b.0) × ¬ (C (SameCell x y))
BreaksPair C n (Differ a b) x y = (x ≡ a.0) × (y ≡ b.0) × C (SameCell x y)

-- the rule is broken by x, alone or with a second item, over declared items only
abbrev pub Breaks : (Cell → Type 0) → Counts → Rule → ℕ → Second → Type 0
Breaks C n u x None = DeclaredItem n x × BreaksAlone C n u.nodes u.head x
Breaks C n u x (Some y) = DeclaredItem n x × DeclaredItem n y.0 × BreaksPair C n u.head x y.0
