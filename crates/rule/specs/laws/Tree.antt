-- Laws of a rule's tree: a child comes after its parent, so the expression at a node is the same at every depth that covers the nodes left. Assumes nothing.
use Rattle.std.specs.Prelude.{◌≡◌, refl, List, ℕ, zero, suc, ◌+◌, ◌-◌, ◌≤◌, ◌<◌}
use Rattle.std.proofs.Common.{ap, sub-one, arith}
use Rattle.rule.specs.declared.Node.{Node}
use Rattle.rule.specs.declared.Node.TheVariants.{Name, Top, Not, And, AtLeast, SelfOf, One}
use Rattle.rule.specs.declared.Rule.{Rule}
use Rattle.rule.specs.declared.Slot.{Slot}
use Rattle.rule.specs.Form.{node_at, node_limit, UsesLater, WellFormed}
use Rattle.rule.specs.Expr.{Expr, build, expr_at, expr_of}
use Rattle.rule.specs.Expr.Expr.{top, neg, many}

-- ---- the expression at a node, a step down

pub expr_at-none : (ns : List Slot) (i : ℕ) → expr_at 0 ns i ≡ top
unfolding expr_at
expr_at-none ns i = refl

pub expr_at-suc : (k : ℕ) (ns : List Slot) (i : ℕ) → expr_at (suc k) ns i ≡ build (expr_at k ns) (node_at ns i)
unfolding expr_at
expr_at-suc k ns i = refl

pub expr_at-step : (k : ℕ) (ns : List Slot) (i : ℕ) → ¬ (k ≡ 0) → expr_at k ns i ≡ build (expr_at (k - 1) ns) (node_at ns i)
unfolding expr_at
expr_at-step zero ns i h = absurd (h refl)
expr_at-step (suc k) ns i h = rw sub-one refl

-- ---- any depth that covers the nodes left

-- two readings of the children that agree on those that are there and come later
pub build-same : (f g : ℕ → Expr) (len i : ℕ) (d : Node) → UsesLater len i d → ((a : ℕ) → i < a → a < len → f a ≡ g a) → build f d ≡ build g d
build-same f g len i (Name c) w h = refl
build-same f g len i Top w h = refl
build-same f g len i (Not a) w h = ap neg (h a w.0 w.1)
build-same f g len i (And a b) w h = cc (h a w.0 w.1, h b w.2 w.3)
build-same f g len i (AtLeast n r a) w h = ap (many n r) (h a w.0 w.1)
build-same f g len i (SelfOf r) w h = refl
build-same f g len i (One a) w h = refl

pub depth-free : (u : Rule) → WellFormed u → (k m i : ℕ) → i < u.len → u.len ≤ i + k → u.len ≤ i + m → expr_at k u.nodes i ≡ expr_at m u.nodes i
unfolding expr_at
depth-free u w zero m i l hk hm = absurd (omega arith)
depth-free u w (suc k) zero i l hk hm = absurd (omega arith)
depth-free u w (suc k) (suc m) i l hk hm =
    build-same (expr_at k u.nodes) (expr_at m u.nodes) u.len i (node_at u.nodes i) (w.later i l)
    (λ a la lb. depth-free u w k m a lb (omega arith) (omega arith))

-- the rule's depth is one of them
pub depth-rule : (u : Rule) → WellFormed u → (k i : ℕ) → i < u.len → u.len ≤ i + k → expr_at k u.nodes i ≡ expr_of u.nodes i
depth-rule u w k i l hk = depth-free u w k node_limit i l hk (omega (arith, w.short))
