-- Whether something violates a rule depends on what the rule means, and on nothing else of it. Assumes nothing.
use Rattle.std.specs.Prelude.{◌≡◌, List, ℕ}
use Rattle.std.proofs.Common.{subst}
use Rattle.store.specs.declared.Counts.{Counts}
use Rattle.store.specs.declared.Item.{Item}
use Rattle.store.specs.Cell.{DeclaredItem}
use Rattle.rule.specs.declared.Head.{Head}
use Rattle.rule.specs.declared.Head.TheVariants as head
use Rattle.rule.specs.declared.RoleUse.{RoleUse}
use Rattle.rule.specs.declared.Rule.{Rule}
use Rattle.rule.specs.Second.{Second}
use Rattle.std.specs.Prelude.{None, Some}
use Rattle.rule.specs.declared.Slot.{Slot}
use Rattle.rule.specs.Expr.{Expr}
use Rattle.saying.specs.Meant.{Meant, head_meaning, meaning_of}
use Rattle.paper.specs.Interpretation.{Interpretation}
use Rattle.paper.specs.Known.{Composed, Equal, KnownOf, KnownRole}
use Rattle.paper.specs.Satisfied.{ValueBreaks}

-- the same table as `ValueBreaks`, said of what a rule means
data MeantBreaks (n : Counts) (U : Interpretation → Type 1) (I : Interpretation) : Meant → ℕ → Second → Type 1 where
  sub : {c d : Expr} {x : ℕ} → DeclaredItem n x → KnownOf n U I c (I.item x) → ¬ (KnownOf n U I d (I.item x)) → MeantBreaks n U I (Meant.sub c d) x None
  rsub : {r s : RoleUse} {x : ℕ} {y : Item} → DeclaredItem n x → DeclaredItem n y.0 → KnownRole n U I r (I.item x) (I.item y.0) → ¬ (KnownRole n U I s (I.item x) (I.item y.0))
      → MeantBreaks n U I (Meant.rsub r s) x (Some y)
  chain : {path : List RoleUse} {r : RoleUse} {x : ℕ} {y : Item} → DeclaredItem n x → DeclaredItem n y.0 → Composed n U I path (I.item x) (I.item y.0)
      → ¬ (KnownRole n U I r (I.item x) (I.item y.0)) → MeantBreaks n U I (Meant.chain path r) x (Some y)
  ref : {r : RoleUse} {x : ℕ} → DeclaredItem n x → ¬ (KnownRole n U I r (I.item x) (I.item x)) → MeantBreaks n U I (Meant.ref r) x None
  irr : {r : RoleUse} {x : ℕ} → DeclaredItem n x → KnownRole n U I r (I.item x) (I.item x) → MeantBreaks n U I (Meant.irr r) x None
  dis : {r s : RoleUse} {x : ℕ} {y : Item} → DeclaredItem n x → DeclaredItem n y.0 → KnownRole n U I r (I.item x) (I.item y.0) → KnownRole n U I s (I.item x) (I.item y.0)
      → MeantBreaks n U I (Meant.dis r s) x (Some y)
  isin : {c : Expr} {a : Item} → ¬ (KnownOf n U I c (I.item a.0)) → MeantBreaks n U I (Meant.isin c a) a.0 None
  rel : {r : RoleUse} {a b : Item} → ¬ (KnownRole n U I r (I.item a.0) (I.item b.0)) → MeantBreaks n U I (Meant.rel r a b) a.0 (Some b)
  norel : {r : RoleUse} {a b : Item} → KnownRole n U I r (I.item a.0) (I.item b.0) → MeantBreaks n U I (Meant.norel r a b) a.0 (Some b)
  same : {a b : Item} → ¬ (Equal (I.item a.0) (I.item b.0)) → MeantBreaks n U I (Meant.same a b) a.0 (Some b)
  differ : {a b : Item} → Equal (I.item a.0) (I.item b.0) → MeantBreaks n U I (Meant.differ a b) a.0 (Some b)

module _ {n : Counts} {U : Interpretation → Type 1} {I : Interpretation} (ns : List Slot) where
  to-meant : {h : Head} {a : ℕ} {b : Second} → ValueBreaks n U I ns h a b → MeantBreaks n U I (head_meaning ns h) a b
  to-meant (ValueBreaks.sub i k l) = sub i k l
  to-meant (ValueBreaks.rsub i j k l) = rsub i j k l
  to-meant (ValueBreaks.chain i j k l) = chain i j k l
  to-meant (ValueBreaks.ref i l) = ref i l
  to-meant (ValueBreaks.irr i k) = irr i k
  to-meant (ValueBreaks.dis i j k l) = dis i j k l
  to-meant (ValueBreaks.isin l) = isin l
  to-meant (ValueBreaks.rel l) = rel l
  to-meant (ValueBreaks.norel k) = norel k
  to-meant (ValueBreaks.same l) = same l
  to-meant (ValueBreaks.differ k) = differ k

  from-meant : (h : Head) {a : ℕ} {b : Second} → MeantBreaks n U I (head_meaning ns h) a b → ValueBreaks n U I ns h a b
  from-meant (head.Sub c d) (sub i k l) = ValueBreaks.sub i k l
  from-meant (head.RoleSub r s) (rsub i j k l) = ValueBreaks.rsub i j k l
  from-meant (head.Chain m r1 r2 r3 r4 r) (chain i j k l) = ValueBreaks.chain i j k l
  from-meant (head.Ref r) (ref i l) = ValueBreaks.ref i l
  from-meant (head.Irr r) (irr i k) = ValueBreaks.irr i k
  from-meant (head.Dis r s) (dis i j k l) = ValueBreaks.dis i j k l
  from-meant (head.In c a) (isin l) = ValueBreaks.isin l
  from-meant (head.Rel r a b) (rel l) = ValueBreaks.rel l
  from-meant (head.NoRel r a b) (norel k) = ValueBreaks.norel k
  from-meant (head.Same a b) (same l) = ValueBreaks.same l
  from-meant (head.Differ a b) (differ k) = ValueBreaks.differ k

-- what violates a rule violates every rule that means the same
pub breaks-meant : {n : Counts} {U : Interpretation → Type 1} {I : Interpretation} (u v : Rule) {a : ℕ} {b : Second} → meaning_of u ≡ meaning_of v → ValueBreaks n U I u.nodes u.head a b
    → ValueBreaks n U I v.nodes v.head a b
breaks-meant {n} {U} {I} u v {a} {b} e x = from-meant v.nodes v.head (subst (λ (m : Meant). MeantBreaks n U I m a b) e (to-meant u.nodes x))
