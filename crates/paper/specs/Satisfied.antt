-- When statements satisfy a rule in the published reading, and which items break it: source 000, Table 2.
use Rattle.std.specs.Prelude.{List, [], ◌∷◌, ℕ, take}
use Rattle.store.specs.declared.Counts.{Counts}
use Rattle.store.specs.declared.Item.{Item}
use Rattle.store.specs.Cell.{Cell, DeclaredItem}
use Rattle.rule.specs.declared.Head.{Head}
use Rattle.rule.specs.declared.Head.TheVariants.{Sub, RoleSub, Chain, Ref, Irr, Dis, In, Rel, NoRel, Same, Differ}
use Rattle.rule.specs.declared.RoleUse.{RoleUse}
use Rattle.rule.specs.declared.Rule.{Rule}
use Rattle.rule.specs.Second.{Second}
use Rattle.std.specs.Prelude.{None, Some}
use Rattle.rule.specs.declared.Slot.{Slot}
use Rattle.rule.specs.Expr.{expr_of}
use Rattle.paper.specs.Interpretation.{Interpretation, Minimal}
use Rattle.paper.specs.Known.{KnownRole, KnownOf, Composed, Equal}

-- 000, Table 2: the condition of each rule word on the IC-interpretation I, U. Where no item is declared, N_I is empty and every role is both
-- reflexive and irreflexive, as 000 notes under the table.
abbrev pub Meets : (n : Counts) (U : Interpretation → Type 1) (I : Interpretation) → List Slot → Head → Type 1
Meets n U I ns (Sub c d) = (e : I.domain) → KnownOf n U I (expr_of ns c) e → KnownOf n U I (expr_of ns d) e
Meets n U I ns (RoleSub r s) = (d e : I.domain) → KnownRole n U I r d e → KnownRole n U I s d e
Meets n U I ns (Chain k r1 r2 r3 r4 r) = (d e : I.domain) → Composed n U I (take k (r1 ∷ r2 ∷ r3 ∷ r4 ∷ [])) d e → KnownRole n U I r d e
Meets n U I ns (Ref r) = (x : ℕ) → DeclaredItem n x → KnownRole n U I r (I.item x) (I.item x)
Meets n U I ns (Irr r) = (x : ℕ) → DeclaredItem n x → ¬ (KnownRole n U I r (I.item x) (I.item x))
Meets n U I ns (Dis r s) = (d e : I.domain) → KnownRole n U I r d e → ¬ (KnownRole n U I s d e)
Meets n U I ns (In c a) = KnownOf n U I (expr_of ns c) (I.item a.0)
Meets n U I ns (Rel r a b) = KnownRole n U I r (I.item a.0) (I.item b.0)
Meets n U I ns (NoRel r a b) = ¬ (KnownRole n U I r (I.item a.0) (I.item b.0))
Meets n U I ns (Same a b) = Equal (I.item a.0) (I.item b.0)
Meets n U I ns (Differ a b) = ¬ (Equal (I.item a.0) (I.item b.0))

-- 000, section 4.1: the statements IC-satisfy the rule. Its condition is met in I, U for every I of U, the models with minimal equality.
pub record ICSatisfies (n : Counts) (Given : Cell → Type 0) (u : Rule) : Type 1 where
  pub everywhere : (I : Interpretation) → Minimal n Given I → Meets n (Minimal n Given) I u.nodes u.head

-- The value of the item x, or the values of x and a second item, break the condition of Table 2: one line a row.
pub data ValueBreaks (n : Counts) (U : Interpretation → Type 1) (I : Interpretation) (ns : List Slot) : Head → ℕ → Second → Type 1 where
  sub : {c d x : ℕ} → DeclaredItem n x → KnownOf n U I (expr_of ns c) (I.item x) → ¬ (KnownOf n U I (expr_of ns d) (I.item x)) → ValueBreaks n U I ns (Sub c d) x None
  rsub : {r s : RoleUse} {x : ℕ} {y : Item} → DeclaredItem n x → DeclaredItem n y.0 → KnownRole n U I r (I.item x) (I.item y.0) → ¬ (KnownRole n U I s (I.item x) (I.item y.0))
      → ValueBreaks n U I ns (RoleSub r s) x (Some y)
  chain : {k : ℕ} {r1 r2 r3 r4 r : RoleUse} {x : ℕ} {y : Item} → DeclaredItem n x → DeclaredItem n y.0
      → Composed n U I (take k (r1 ∷ r2 ∷ r3 ∷ r4 ∷ [])) (I.item x) (I.item y.0) → ¬ (KnownRole n U I r (I.item x) (I.item y.0))
      → ValueBreaks n U I ns (Chain k r1 r2 r3 r4 r) x (Some y)
  ref : {r : RoleUse} {x : ℕ} → DeclaredItem n x → ¬ (KnownRole n U I r (I.item x) (I.item x)) → ValueBreaks n U I ns (Ref r) x None
  irr : {r : RoleUse} {x : ℕ} → DeclaredItem n x → KnownRole n U I r (I.item x) (I.item x) → ValueBreaks n U I ns (Irr r) x None
  dis : {r s : RoleUse} {x : ℕ} {y : Item} → DeclaredItem n x → DeclaredItem n y.0 → KnownRole n U I r (I.item x) (I.item y.0) → KnownRole n U I s (I.item x) (I.item y.0)
      → ValueBreaks n U I ns (Dis r s) x (Some y)
  isin : {c : ℕ} {a : Item} → ¬ (KnownOf n U I (expr_of ns c) (I.item a.0)) → ValueBreaks n U I ns (In c a) a.0 None
  rel : {r : RoleUse} {a b : Item} → ¬ (KnownRole n U I r (I.item a.0) (I.item b.0)) → ValueBreaks n U I ns (Rel r a b) a.0 (Some b)
  norel : {r : RoleUse} {a b : Item} → KnownRole n U I r (I.item a.0) (I.item b.0) → ValueBreaks n U I ns (NoRel r a b) a.0 (Some b)
  same : {a b : Item} → ¬ (Equal (I.item a.0) (I.item b.0)) → ValueBreaks n U I ns (Same a b) a.0 (Some b)
  differ : {a b : Item} → Equal (I.item a.0) (I.item b.0) → ValueBreaks n U I ns (Differ a b) a.0 (Some b)
