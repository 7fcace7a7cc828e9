-- Theorem C: a rule is IC-satisfied exactly if there is no finding, and a finding is exactly what breaks the rule's condition by its value. Assumes nothing.
use Rattle.std.specs.Prelude.{◌≡◌, refl, ◌↔◌, List, [], ◌∷◌, ℕ, zero, suc, ◌≤◌, take}
use Rattle.std.proofs.Common.{sym, ap, subst, subst₂, arith}
use mathlib.Core.Logic.Dec
use Rattle.store.specs.declared.Counts.{Counts}
use Rattle.store.specs.declared.Item.{Item}
use Rattle.store.specs.Cell.{Cell, DeclaredItem}
use Rattle.store.specs.Cell.Cell.{Same as SameCell}
use Rattle.rule.specs.declared.Head.{Head}
use Rattle.rule.specs.declared.Head.TheVariants.{Sub, RoleSub, Chain, Ref, Irr, Dis, In, Rel, NoRel, Same, Differ}
use Rattle.rule.specs.declared.RoleUse.{RoleUse}
use Rattle.rule.specs.declared.Rule.{Rule}
use Rattle.rule.specs.Second.{Second}
use Rattle.std.specs.Prelude.{None, Some}
use Rattle.rule.specs.declared.Slot.{Slot}
use Rattle.rule.specs.Breaks.{Breaks, BreaksAlone, BreaksPair, Path}
use Rattle.rule.specs.Expr.{Expr, expr_of}
use Rattle.rule.specs.Form.{RuleWithin, WellFormed}
use Rattle.rule.specs.Meaning.{HoldsOf, Linked}
use Rattle.rule.proofs.laws.Told.{holds_of?, linked?}
use Rattle.paper.specs.Interpretation.{Interpretation, Minimal}
use Rattle.paper.specs.Known.{Composed, KnownOf, KnownRole, Named}
use Rattle.paper.specs.Satisfied.{ICSatisfies, Meets, ValueBreaks}
use Rattle.paper.specs.Satisfied.ValueBreaks.{sub, rsub, chain, ref, irr, dis, isin, rel, norel, same, differ}
use Rattle.paper.specs.laws.Canonical.{Settled, canonical, settled-obeys}
use Rattle.paper.proofs.laws.Names.{HeadDeclared, head-declared}
use Rattle.paper.proofs.laws.TheoremB.{canonical-minimal, minimal-value}
use Rattle.paper.proofs.laws.Values.{ItemsDeclared, composed-named, composed-path, known_of, known-role, of-named, path-composed, role-named}

-- what breaks a rule, by its nodes and its head
abbrev HeadBreaks : (Cell → Type 0) → Counts → List Slot → Head → ℕ → Second → Type 0
HeadBreaks C n ns h x None = DeclaredItem n x × BreaksAlone C n ns h x
HeadBreaks C n ns h x (Some y) = DeclaredItem n x × DeclaredItem n y.0 × BreaksPair C n h x y.0

item-same : {a b : Item} → a.0 ≡ b.0 → a ≡ b
item-same e = ap (λ (z : ℕ). record { 0 = z }) e

-- ---- a condition that is met is broken by no value

meets-none : {n : Counts} {U : Interpretation → Type 1} {I : Interpretation} {ns : List Slot} {h : Head} {x : ℕ} {s : Second} → Meets n U I ns h → ¬ (ValueBreaks n U I ns h x s)
meets-none {I = I} f (sub {x = x} l a b) = b (f (I.item x) a)
meets-none {I = I} f (rsub {x = x} {y = y} l j a b) = b (f (I.item x) (I.item y.0) a)
meets-none {I = I} f (chain {x = x} {y = y} l j a b) = b (f (I.item x) (I.item y.0) a)
meets-none f (ref {x = x} l b) = b (f x l)
meets-none f (irr {x = x} l a) = f x l a
meets-none {I = I} f (dis {x = x} {y = y} l j a b) = f (I.item x) (I.item y.0) a b
meets-none f (isin b) = b f
meets-none f (rel b) = b f
meets-none f (norel a) = f a
meets-none f (same b) = b f
meets-none f (differ a) = f a

module _ {n : Counts} {G C : Cell → Type 0} (k : Settled n G C) {I : Interpretation} (m : Minimal n G I) (ns : List Slot) where
  abbrev U : Interpretation → Type 1
  U = Minimal n G

  -- a chain of two or more roles: its path
  chain-path : (j : ℕ) (r1 r2 r3 r4 : RoleUse) (x y : ℕ) → 2 ≤ j → DeclaredItem n x → DeclaredItem n y
      → Composed n U I (take j (r1 ∷ r2 ∷ r3 ∷ r4 ∷ [])) (I.item x) (I.item y) → Path C n (take j (r1 ∷ r2 ∷ r3 ∷ r4 ∷ [])) x y
  chain-path zero r1 r2 r3 r4 x y g h l p = absurd (omega arith)
  chain-path (suc j) r1 r2 r3 r4 x y g h l p = composed-path k m r1 (take j (r2 ∷ r3 ∷ r4 ∷ [])) h l p

  -- ---- a finding's value breaks the condition

  abbrev Alike : ℕ → ℕ → Type 0
  Alike x y = C (SameCell x y)

  at_pair : {h : Head} {a b y : Item} {x : ℕ} → x ≡ a.0 → y.0 ≡ b.0 → ValueBreaks n U I ns h a.0 (Some b) → ValueBreaks n U I ns h x (Some y)
  at_pair {h} q t v = subst₂ (λ (z : ℕ) (w : Item). ValueBreaks n U I ns h z (Some w)) (sym q) (sym (item-same t)) v

  breaks-value : (h : Head) (x : ℕ) (s : Second) → HeadDeclared n ns h → HeadBreaks C n ns h x s → ValueBreaks n U I ns h x s
  breaks-value (Sub c d) x None e (l, (a, b)) = sub l ((known_of k m (expr_of ns c) e.0 l).1 a) (λ v. b ((known_of k m (expr_of ns d) e.1 l).0 v))
  breaks-value (Sub c d) x (Some y) e b = absurd b.2
  breaks-value (RoleSub r s) x None e b = absurd b.1
  breaks-value (RoleSub r s) x (Some y) e (l, j, (a, b)) = rsub l j ((known-role k m r l j).1 a) (λ v. b ((known-role k m s l j).0 v))
  breaks-value (Chain j r1 r2 r3 r4 r) x None e b = absurd b.1
  breaks-value (Chain j r1 r2 r3 r4 r) x (Some y) e (l, i, (a, b)) = chain l i (path-composed k m (take j (r1 ∷ r2 ∷ r3 ∷ r4 ∷ [])) x y.0 l a) (λ v. b ((known-role k m r l i).0 v))
  breaks-value (Ref r) x None e (l, b) = ref l (λ v. b ((known-role k m r l l).0 v))
  breaks-value (Ref r) x (Some y) e b = absurd b.2
  breaks-value (Irr r) x None e (l, a) = irr l ((known-role k m r l l).1 a)
  breaks-value (Irr r) x (Some y) e b = absurd b.2
  breaks-value (Dis r s) x None e b = absurd b.1
  breaks-value (Dis r s) x (Some y) e (l, j, (a, b)) = dis l j ((known-role k m r l j).1 a) ((known-role k m s l j).1 b)
  breaks-value (In c a) x None e (l, (q, b)) =
      subst (λ (z : ℕ). ValueBreaks n U I ns (In c a) z None) (sym q)
      (isin (λ v. b (subst (λ (z : ℕ). HoldsOf C n (expr_of ns c) z) (sym q) ((known_of k m (expr_of ns c) e.0 e.1).0 v))))
  breaks-value (In c a) x (Some y) e b = absurd b.2
  breaks-value (Rel r a b) x None e v = absurd v.1
  breaks-value (Rel r a b) x (Some y) e (l, j, (q, t, v)) = at_pair q t (rel (λ z. v (subst₂ (Linked C r) (sym q) (sym t) ((known-role k m r e.0 e.1).0 z))))
  breaks-value (NoRel r a b) x None e v = absurd v.1
  breaks-value (NoRel r a b) x (Some y) e (l, j, (q, t, v)) = at_pair q t (norel ((known-role k m r e.0 e.1).1 (subst₂ (Linked C r) q t v)))
  breaks-value (Same a b) x None e v = absurd v.1
  breaks-value (Same a b) x (Some y) e (l, j, (q, t, v)) = at_pair q t (same (λ z. v (subst₂ Alike (sym q) (sym t) ((minimal-value k m e.0 e.1).0 z.equal))))
  breaks-value (Differ a b) x None e v = absurd v.1
  breaks-value (Differ a b) x (Some y) e (l, j, (q, t, v)) = at_pair q t (differ (record { equal = (minimal-value k m e.0 e.1).1 (subst₂ Alike q t v) }))

  -- ---- a value that breaks the condition is a finding's

  value-breaks : {h : Head} {x : ℕ} {s : Second} → HeadDeclared n ns h → ValueBreaks n U I ns h x s → HeadBreaks C n ns h x s
  value-breaks e (sub {c = c} {d = d} l a b) = (l, ((known_of k m (expr_of ns c) e.0 l).0 a, λ v. b ((known_of k m (expr_of ns d) e.1 l).1 v)))
  value-breaks e (rsub {r = r} {s = s} l j a b) = (l, j, ((known-role k m r l j).0 a, λ v. b ((known-role k m s l j).1 v)))
  value-breaks e (chain {k = i} {r1 = r1} {r2 = r2} {r3 = r3} {r4 = r4} {r = r} {x = x} {y = y} l j a b) = (l, j, (chain-path i r1 r2 r3 r4 x y.0 e l j a, λ v. b ((known-role k m r l j).1 v)))
  value-breaks e (ref {r = r} l b) = (l, λ v. b ((known-role k m r l l).1 v))
  value-breaks e (irr {r = r} l a) = (l, (known-role k m r l l).0 a)
  value-breaks e (dis {r = r} {s = s} l j a b) = (l, j, ((known-role k m r l j).0 a, (known-role k m s l j).0 b))
  value-breaks e (isin {c = c} b) = (e.1, (refl, λ v. b ((known_of k m (expr_of ns c) e.0 e.1).1 v)))
  value-breaks e (rel {r = r} b) = (e.0, e.1, (refl, refl, λ v. b ((known-role k m r e.0 e.1).1 v)))
  value-breaks e (norel {r = r} a) = (e.0, e.1, (refl, refl, (known-role k m r e.0 e.1).0 a))
  value-breaks e (same b) = (e.0, e.1, (refl, refl, λ v. b (record { equal = (minimal-value k m e.0 e.1).1 v })))
  value-breaks e (differ a) = (e.0, e.1, (refl, refl, (minimal-value k m e.0 e.1).0 a.equal))

  -- ---- with no finding the condition is met

  told_of : (c : Expr) → ItemsDeclared n c → {x : ℕ} → DeclaredItem n x → ¬ (¬ (HoldsOf C n c x)) → KnownOf n U I c (I.item x)
  told_of c i {x} l f = (known_of k m c i l).1 ((Dec.not-not (holds_of? (settled-obeys k) k.tell c x)).0 f)

  told-role : (r : RoleUse) {x y : ℕ} → DeclaredItem n x → DeclaredItem n y → ¬ (¬ (Linked C r x y)) → KnownRole n U I r (I.item x) (I.item y)
  told-role r {x} {y} l j f = (known-role k m r l j).1 ((Dec.not-not (linked? k.tell r x y)).0 f)

  -- the same at named elements, by their items
  linked-at : (r : RoleUse) {d e : I.domain} (v : Named n I d) (w : Named n I e) → KnownRole n U I r d e → Linked C r v.name w.name
  linked-at r v w x = (known-role k m r v.declared w.declared).0 (subst₂ (KnownRole n U I r) (sym v.value) (sym w.value) x)

  told_at : (r : RoleUse) {d e : I.domain} (v : Named n I d) (w : Named n I e) → ¬ (¬ (Linked C r v.name w.name)) → KnownRole n U I r d e
  told_at r v w f = subst₂ (KnownRole n U I r) v.value w.value (told-role r v.declared w.declared f)

  -- no item, and no pair, is a finding
  abbrev NoFinding : Head → Type 0
  NoFinding h = (x : ℕ) (s : Second) → ¬ (HeadBreaks C n ns h x s)

  meets-sub : (c d : ℕ) → HeadDeclared n ns (Sub c d) → NoFinding (Sub c d) → Meets n U I ns (Sub c d)
  meets-sub c d e f g v = subst (KnownOf n U I (expr_of ns d)) w.value (told_of (expr_of ns d) e.1 w.declared (λ b. f w.name None (w.declared, (left, b))))
    where
      w : Named n I g
      w = of-named k m (expr_of ns c) e.0 v

      left : HoldsOf C n (expr_of ns c) w.name
      left = (known_of k m (expr_of ns c) e.0 w.declared).0 (subst (KnownOf n U I (expr_of ns c)) (sym w.value) v)

  meets-chain : (j : ℕ) (r1 r2 r3 r4 r : RoleUse) → 2 ≤ j → NoFinding (Chain j r1 r2 r3 r4 r) → Meets n U I ns (Chain j r1 r2 r3 r4 r)
  meets-chain zero r1 r2 r3 r4 r g f d e p = absurd (omega arith)
  meets-chain (suc j) r1 r2 r3 r4 r g f d e p = told_at r v w (λ b. f v.name (Some (record { 0 = w.name })) (v.declared, w.declared, (path, b)))
    where
      v : Named n I d
      v = (role-named k m r1 p.1).0

      w : Named n I e
      w = composed-named k m r1 (take j (r2 ∷ r3 ∷ r4 ∷ [])) d e p

      path : Path C n (take (suc j) (r1 ∷ r2 ∷ r3 ∷ r4 ∷ [])) v.name w.name
      path = chain-path (suc j) r1 r2 r3 r4 v.name w.name g v.declared w.declared
          (subst₂ (Composed n U I (take (suc j) (r1 ∷ r2 ∷ r3 ∷ r4 ∷ []))) (sym v.value) (sym w.value) p)

  none-meets : (h : Head) → HeadDeclared n ns h → NoFinding h → Meets n U I ns h
  none-meets (Sub c d) e f = meets-sub c d e f
  none-meets (RoleSub r s) e f = λ d g x. let p = role-named k m r x in
      told_at s p.0 p.1 (λ b. f p.0.name (Some (record { 0 = p.1.name })) (p.0.declared, p.1.declared, (linked-at r p.0 p.1 x, b)))
  none-meets (Chain j r1 r2 r3 r4 r) e f = meets-chain j r1 r2 r3 r4 r e f
  none-meets (Ref r) e f = λ x l. told-role r l l (λ b. f x None (l, b))
  none-meets (Irr r) e f = λ x l a. f x None (l, (known-role k m r l l).0 a)
  none-meets (Dis r s) e f = λ d g x y. let p = role-named k m r x in
      f p.0.name (Some (record { 0 = p.1.name })) (p.0.declared, p.1.declared, (linked-at r p.0 p.1 x, linked-at s p.0 p.1 y))
  none-meets (In c a) e f = told_of (expr_of ns c) e.0 e.1 (λ b. f a.0 None (e.1, (refl, b)))
  none-meets (Rel r a b) e f = told-role r e.0 e.1 (λ v. f a.0 (Some b) (e.0, e.1, (refl, refl, v)))
  none-meets (NoRel r a b) e f = λ v. f a.0 (Some b) (e.0, e.1, (refl, refl, (known-role k m r e.0 e.1).0 v))
  none-meets (Same a b) e f = record { equal = (minimal-value k m e.0 e.1).1 ((Dec.not-not (k.tell (SameCell a.0 b.0))).0 (λ v. f a.0 (Some b) (e.0, e.1, (refl, refl, v)))) }
  none-meets (Differ a b) e f = λ v. f a.0 (Some b) (e.0, e.1, (refl, refl, (minimal-value k m e.0 e.1).0 v.equal))

-- ---- the theorem

module _ {n : Counts} {G C : Cell → Type 0} (k : Settled n G C) {u : Rule} (form : WellFormed u) (within : RuleWithin n u) where
  by-head : (x : ℕ) (s : Second) → Breaks C n u x s ↔ HeadBreaks C n u.nodes u.head x s
  by-head x None = (λ b. b, λ b. b)
  by-head x (Some y) = (λ b. b, λ b. b)

  -- an item, or a pair, breaks the rule exactly if its value breaks the rule's condition, in each model with minimal equality
  pub theorem-c-finding : {I : Interpretation} → Minimal n G I → (x : ℕ) (s : Second) → Breaks C n u x s ↔ ValueBreaks n (Minimal n G) I u.nodes u.head x s
  theorem-c-finding m x s = (
    λ b. breaks-value k m u.nodes u.head x s (head-declared form within) ((by-head x s).0 b),
    λ v. (by-head x s).1 (value-breaks k m u.nodes (head-declared form within) v),
  )

  -- the rule is IC-satisfied exactly if nothing breaks it
  pub theorem-c : ICSatisfies n G u ↔ ((x : ℕ) (s : Second) → ¬ (Breaks C n u x s))
  theorem-c = (
    λ z x s b. meets-none (z.everywhere (canonical k) (canonical-minimal k)) ((theorem-c-finding (canonical-minimal k) x s).0 b),
    λ f. record { everywhere = λ I m. none-meets k m u.nodes u.head (head-declared form within) (λ x s b. f x s ((by-head x s).1 b)) },
  )
