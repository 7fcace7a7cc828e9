-- Laws of explaining a finding: which rule it is, its sides, and that the item breaks it. Assumes nothing.
use Rattle.std.specs.Prelude.{◌≡◌, Bool, true, false, Some, None, List, [], ◌∷◌, ◌++◌, ℕ, ◌≤◌, length}
use Rattle.std.proofs.Common.{sym, ap, ◌∙◌, true≢false, arith, length-append}
use Rattle.std.proofs.Math.Path.{subst}
use Rattle.store.specs.declared.Concept.{Concept}
use Rattle.store.specs.declared.Counts.{Counts}
use Rattle.store.specs.Cell.Cell.{In}
use Rattle.store.specs.Layout.{Holds}
use Rattle.rule.specs.declared.Head.{Head}
use Rattle.rule.specs.declared.Head.TheVariants as head
use Rattle.rule.specs.declared.Node.{Node}
use Rattle.rule.specs.declared.Node.TheVariants as node
use Rattle.rule.specs.declared.Rule.{Rule}
use Rattle.std.specs.Prelude.{None}
use Rattle.rule.specs.declared.Slot.{Slot}
use Rattle.rule.specs.Breaks.{Breaks, BreaksAlone}
use Rattle.rule.specs.Expr.{Expr, build, expr_at, expr_of}
use Rattle.rule.specs.Expr.Expr.{name}
use Rattle.rule.specs.Form.{node_at}
use Rattle.rule.specs.Meaning.{HoldsOf}
use Rattle.breach.specs.own.Plan.{is_sub}
use Rattle.sheet.specs.Said.{RuleAt, Said, SheetRule}
use Rattle.finding.specs.Finding.{BrokenSub, SubOfNames, concept}
use Rattle.finding.specs.own.Sides.{NodeIs}

-- ---- the sides of a rule

node-name : (n : Node) {c : Concept} → NodeIs n (Some c) → n ≡ node.Name c
node-name (node.Name d) e = cc
node-name node.Top e = absurd (cc)
node-name (node.Not a) e = absurd (cc)
node-name (node.And a b) e = absurd (cc)
node-name (node.AtLeast k u a) e = absurd (cc)
node-name (node.SelfOf u) e = absurd (cc)
node-name (node.One a) e = absurd (cc)

node-not : (n : Node) (c : Concept) → NodeIs n None → n ≡ node.Name c → ⊥
node-not n c e q = let z : NodeIs (node.Name c) None = subst (λ (m : Node). NodeIs m None) q e in cc

name-expr : (ns : List Slot) (i : ℕ) (c : Concept) → node_at ns i ≡ node.Name c → expr_of ns i ≡ name c
unfolding expr_at
name-expr ns i c e = rw e

abbrev is_name : Expr → Bool
is_name (name c) = true
is_name Expr.top = false
is_name (Expr.neg c) = false
is_name (Expr.both c d) = false
is_name (Expr.many k u c) = false
is_name (Expr.own u) = false
is_name (Expr.one a) = false

build-name : (f : ℕ → Expr) (n : Node) (c : Concept) → build f n ≡ name c → n ≡ node.Name c
build-name f (node.Name d) c e = cc
build-name f node.Top c e = absurd (true≢false (sym (ap is_name e)))
build-name f (node.Not a) c e = absurd (true≢false (sym (ap is_name e)))
build-name f (node.And a b) c e = absurd (true≢false (sym (ap is_name e)))
build-name f (node.AtLeast k u a) c e = absurd (true≢false (sym (ap is_name e)))
build-name f (node.SelfOf u) c e = absurd (true≢false (sym (ap is_name e)))
build-name f (node.One a) c e = absurd (true≢false (sym (ap is_name e)))

expr-name : (ns : List Slot) (i : ℕ) (c : Concept) → expr_of ns i ≡ name c → node_at ns i ≡ node.Name c
unfolding expr_at
expr-name ns i c e = build-name (expr_at 31 ns) (node_at ns i) c e

module _ {u : Rule} {a b : ℕ} (h : u.head ≡ head.Sub a b) where
  pub sides-names : (c d : Concept) → NodeIs (node_at u.nodes a) (Some c) → NodeIs (node_at u.nodes b) (Some d) → SubOfNames u c.0 d.0
  sides-names c d x y = record { left = a; right = b; head = h; first = name-expr u.nodes a c (node-name _ x); second = name-expr u.nodes b d (node-name _ y) }

  pub sides-left-not : NodeIs (node_at u.nodes a) None → (c d : ℕ) → ¬ (SubOfNames u c d)
  sides-left-not x c d s =
      let e : s.left ≡ a = let z = sym s.head ∙ h in cc in
      node-not (node_at u.nodes a) (concept c) x (subst (λ (i : ℕ). node_at u.nodes i ≡ node.Name (concept c)) e (expr-name u.nodes s.left (concept c) s.first))

  pub sides-right-not : NodeIs (node_at u.nodes b) None → (c d : ℕ) → ¬ (SubOfNames u c d)
  sides-right-not x c d s =
      let e : s.right ≡ b = let z = sym s.head ∙ h in cc in
      node-not (node_at u.nodes b) (concept d) x (subst (λ (i : ℕ). node_at u.nodes i ≡ node.Name (concept d)) e (expr-name u.nodes s.right (concept d) s.second))

-- a rule with another word than `sub` has no sides
pub sides-other : (u : Rule) → is_sub u.head ≡ false → (c d : ℕ) → ¬ (SubOfNames u c d)
sides-other u e c d s = true≢false (sym (ap is_sub s.head) ∙ e)

-- the concept on the right side is one
pub right_unique : {u : Rule} {c d c' d' : ℕ} → SubOfNames u c d → SubOfNames u c' d' → concept d ≡ concept d'
right_unique {u} {d = d} {d' = d'} s q =
    let h = sym s.head ∙ q.head in
    let e : s.right ≡ q.right = cc in
    let z : name (concept d) ≡ name (concept d') = sym s.second ∙ ap (expr_of u.nodes) e ∙ q.second in
    cc

-- ---- the rule with a number

split-unique : {A : Type 0} (b b' : List A) {x y : A} (c c' : List A) → b ++ x ∷ c ≡ b' ++ y ∷ c' → length b ≡ length b' → x ≡ y
split-unique [] [] c c' e l = cc
split-unique [] (z ∷ b') c c' e l = absurd (omega arith)
split-unique (z ∷ b) [] c c' e l = absurd (omega arith)
split-unique (z ∷ b) (w ∷ b') {x} {y} c c' e l = let q : b ++ x ∷ c ≡ b' ++ y ∷ c' = cc in split-unique b b' c c' q (omega arith)

pub rule-unique : {x : Said} {k : ℕ} {u v : Rule} → RuleAt x k u → RuleAt x k v → u ≡ v
rule-unique p q = ap (λ (r : SheetRule). r.rule) (split-unique p.before q.before p.after q.after (sym p.is ∙ q.is) (omega (arith, p.place, q.place)))

module _ {W : ℕ} {n : Counts} {x : Said} {s : List ℕ} {k a : ℕ} where
  -- there is no such rule
  pub broken-none : length x.rules ≤ k → (c d : ℕ) → ¬ (BrokenSub W n x s k a c d)
  broken-none h c d z =
      let w = z.there in
      omega (arith, w.place, ap length w.is, length-append w.before (record { line = w.line; rule = z.rule } ∷ w.after))

  module _ {u : Rule} (p : RuleAt x k u) where
    same-rule : {c d : ℕ} (z : BrokenSub W n x s k a c d) → SubOfNames u c d × Breaks (Holds W n s) n u a None
    same-rule {c} {d} z =
        let e = rule-unique z.there p in
        (subst (λ (v : Rule). SubOfNames v c d) e z.names, subst (λ (v : Rule). Breaks (Holds W n s) n v a None) e z.broken)

    -- it is of another kind
    pub broken-other : ((c d : ℕ) → ¬ (SubOfNames u c d)) → (c d : ℕ) → ¬ (BrokenSub W n x s k a c d)
    broken-other f c d z = f c d (same-rule z).0

    module _ {l r : ℕ} (q : SubOfNames u l r) where
      sub-broken : Breaks (Holds W n s) n u a None → Holds W n s (In a l) × ¬ (Holds W n s (In a r))
      unfolding HoldsOf
      sub-broken b =
          let z : BreaksAlone (Holds W n s) n u.nodes (head.Sub q.left q.right) a = subst (λ (h : Head). BreaksAlone (Holds W n s) n u.nodes h a) q.head b.1 in
          (subst (λ (e : Expr). HoldsOf (Holds W n s) n e a) q.first z.0, λ h. z.1 (subst (λ (e : Expr). HoldsOf (Holds W n s) n e a) (sym q.second) h))

      broken-sub : Holds W n s (In a l) → ¬ (Holds W n s (In a r)) → Breaks (Holds W n s) n u a None
      unfolding HoldsOf
      broken-sub h g = (
        h.within.0,
        subst (λ (e : Head). BreaksAlone (Holds W n s) n u.nodes e a) (sym q.head)
            (subst (λ (e : Expr). HoldsOf (Holds W n s) n e a) (sym q.first) h, λ b. g (subst (λ (e : Expr). HoldsOf (Holds W n s) n e a) q.second b)),
      )

      -- it is not broken: the item is not in the left concept, or it is in the right one
      pub broken-left : ¬ (Holds W n s (In a l)) → (c d : ℕ) → ¬ (BrokenSub W n x s k a c d)
      broken-left g c d z = g (sub-broken (same-rule z).1).0

      pub broken-right : Holds W n s (In a r) → (c d : ℕ) → ¬ (BrokenSub W n x s k a c d)
      broken-right h c d z = (sub-broken (same-rule z).1).1 h

      -- it is broken
      pub broken-yes : Holds W n s (In a l) → ¬ (Holds W n s (In a r)) → BrokenSub W n x s k a l r
      broken-yes h g = record { rule = u; there = p; names = q; broken = broken-sub h g }

-- the item of a broken rule is in its left concept
pub broken-in : {W : ℕ} {n : Counts} {x : Said} {s : List ℕ} {k a c d : ℕ} → BrokenSub W n x s k a c d → Holds W n s (In a c)
broken-in {W} {n} {x} {s} {k} {a} z = (sub-broken {W = W} {n = n} {x = x} {s = s} {k = k} {a = a} z.there z.names z.broken).0
