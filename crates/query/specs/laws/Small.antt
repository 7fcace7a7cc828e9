-- The numbers of a rule that is not refused can be written as words. Assumes nothing.
use Rattle.std.specs.Prelude.{[], ◌∷◌, ℕ, zero, suc, ◌≤◌, ◌<◌, take}
use Rattle.std.proofs.Common.{arith}
use Rattle.store.specs.declared.Counts.{Counts}
use Rattle.store.specs.Layout.{Fits, large}
use Rattle.rule.specs.declared.Head.{Head}
use Rattle.rule.specs.declared.Head.TheVariants.{Sub, RoleSub, Chain, Ref, Irr, Dis, In, Rel, NoRel, Same, Differ}
use Rattle.rule.specs.declared.Node.{Node}
use Rattle.rule.specs.declared.Node.TheVariants.{Name, Top, Not, And, AtLeast, SelfOf, One}
use Rattle.rule.specs.declared.RoleUse.{RoleUse}
use Rattle.rule.specs.declared.Rule.{Rule}
use Rattle.rule.specs.Form.{node_at, node_limit, HeadFits, UsesLater, CountFits, WellFormed, NodeWithin, HeadWithin, RuleWithin}
use Rattle.rule.specs.Expr.{Expr, build, expr_at}
use Rattle.body.specs.Body.{first_item}
use Rattle.body.specs.own.Writing.{SmallRole, SmallPath, Small}
use Rattle.query.specs.own.Filling.{SmallHead}
use Rattle.store.specs.Cell.{DeclaredItem}

module _ (n : Counts) (f : Fits large n) where
  small-item : (a : ℕ) → DeclaredItem n a → a < first_item
  small-item a l = omega (arith, f.items)

  small-concept : (a : ℕ) → a < n.concepts → a < first_item
  small-concept a l = omega (arith, f.concepts)

  small-role : (u : RoleUse) → u.role.0 < n.roles → SmallRole u
  small-role u l = omega (arith, f.roles)

  small-build : (g : ℕ → Expr) (len i : ℕ) (d : Node) → UsesLater len i d → CountFits d → NodeWithin n d → ((a : ℕ) → a < len → Small (g a)) → Small (build g d)
  small-build g len i (Name c) l k w h = small-concept c.0 w
  small-build g len i Top l k w h = tt
  small-build g len i (Not a) l k w h = h a l.1
  small-build g len i (And a b) l k w h = (h a l.1, h b l.3)
  small-build g len i (AtLeast m u a) l k w h = (k.1, small-role u w, h a l.1)
  small-build g len i (SelfOf u) l k w h = small-role u w
  small-build g len i (One a) l k w h = small-item a.0 w

  -- the expression at a node of the rule
  pub small_at : (u : Rule) → WellFormed u → RuleWithin n u → (k i : ℕ) → i < u.len → Small (expr_at k u.nodes i)
  unfolding expr_at
  small_at u w r zero i l = tt
  small_at u w r (suc k) i l = small-build (expr_at k u.nodes) u.len i (node_at u.nodes i) (w.later i l) (w.counts i l) (r.nodes i l) (λ a la. small_at u w r k a la)

  small-chain : (k : ℕ) (r1 r2 r3 r4 r : RoleUse) → 2 ≤ k → k ≤ 4 → HeadWithin n (Chain k r1 r2 r3 r4 r) → SmallPath (take k (r1 ∷ r2 ∷ r3 ∷ r4 ∷ []))
  small-chain zero r1 r2 r3 r4 r a b w = absurd (omega arith)
  small-chain (suc zero) r1 r2 r3 r4 r a b w = absurd (omega arith)
  small-chain (suc (suc zero)) r1 r2 r3 r4 r a b w = (small-role r1 (w.0 (omega arith)), (small-role r2 (w.1 (omega arith)), tt))
  small-chain (suc (suc (suc zero))) r1 r2 r3 r4 r a b w = (small-role r1 (w.0 (omega arith)), (small-role r2 (w.1 (omega arith)), (small-role r3 (w.2 (omega arith)), tt)))
  small-chain (suc (suc (suc (suc zero)))) r1 r2 r3 r4 r a b w = (small-role r1 (w.0 (omega arith)), (small-role r2 (w.1 (omega arith)), (small-role r3 (w.2 (omega arith)), (small-role r4 (w.3 (omega arith)), tt))))
  small-chain (suc (suc (suc (suc (suc k))))) r1 r2 r3 r4 r a b w = absurd (omega arith)

  -- the head of the rule
  pub small-head : (u : Rule) → WellFormed u → RuleWithin n u → SmallHead u.nodes u.head
  small-head u w r = go u.head w.head r.head
    where
      go : (h : Head) → HeadFits u.len h → HeadWithin n h → SmallHead u.nodes h
      go (Sub c d) k i = (small_at u w r node_limit c k.0, small_at u w r node_limit d k.1)
      go (RoleSub q s) k i = (small-role q i.0, small-role s i.1)
      go (Chain m r1 r2 r3 r4 q) k i = (k.0, k.1, small-chain m r1 r2 r3 r4 q k.0 k.1 i, small-role q i.4)
      go (Ref q) k i = small-role q i
      go (Irr q) k i = small-role q i
      go (Dis q s) k i = (small-role q i.0, small-role s i.1)
      go (In c a) k i = (small_at u w r node_limit c k, small-item a.0 i)
      go (Rel q a b) k i = (small-role q i.0, small-item a.0 i.1, small-item b.0 i.2)
      go (NoRel q a b) k i = (small-role q i.0, small-item a.0 i.1, small-item b.0 i.2)
      go (Same a b) k i = (small-item a.0 i.0, small-item b.0 i.1)
      go (Differ a b) k i = (small-item a.0 i.0, small-item b.0 i.1)
