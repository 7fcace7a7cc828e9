-- A well-formed rule of declared names: the items it names, in its head and its expressions, are declared. Assumes nothing.
use Rattle.std.specs.Prelude.{List}
use Prim.Native.Nat.{ℕ, zero, suc, ◌≤◌, ◌<◌}
use Rattle.store.specs.declared.Counts.{Counts}
use Rattle.store.specs.Cell.{DeclaredItem}
use Rattle.rule.specs.declared.Head.{Head}
use Rattle.rule.specs.declared.Head.TheVariants.{Sub, RoleSub, Chain, Ref, Irr, Dis, In, Rel, NoRel, Same, Differ}
use Rattle.rule.specs.declared.Node.{Node}
use Rattle.rule.specs.declared.Node.TheVariants.{Name, Top, Not, And, AtLeast, SelfOf, One}
use Rattle.rule.specs.declared.Rule.{Rule}
use Rattle.rule.specs.declared.Slot.{Slot}
use Rattle.rule.specs.Form.{HeadFits, HeadWithin, NodeWithin, RuleWithin, UsesLater, WellFormed, node_at, node_limit}
use Rattle.rule.specs.Expr.{Expr, build, expr_at, expr_of}
use Rattle.paper.proofs.laws.Values.{ItemsDeclared}

-- the items of a head and of its expressions are declared, and a chain has a step
abbrev pub HeadDeclared : Counts → List Slot → Head → Type 0
HeadDeclared n ns (Sub c d) = ItemsDeclared n (expr_of ns c) × ItemsDeclared n (expr_of ns d)
HeadDeclared n ns (RoleSub r s) = Unit {0}
HeadDeclared n ns (Chain k r1 r2 r3 r4 r) = 2 ≤ k
HeadDeclared n ns (Ref r) = Unit {0}
HeadDeclared n ns (Irr r) = Unit {0}
HeadDeclared n ns (Dis r s) = Unit {0}
HeadDeclared n ns (In c a) = ItemsDeclared n (expr_of ns c) × DeclaredItem n a.0
HeadDeclared n ns (Rel r a b) = DeclaredItem n a.0 × DeclaredItem n b.0
HeadDeclared n ns (NoRel r a b) = DeclaredItem n a.0 × DeclaredItem n b.0
HeadDeclared n ns (Same a b) = DeclaredItem n a.0 × DeclaredItem n b.0
HeadDeclared n ns (Differ a b) = DeclaredItem n a.0 × DeclaredItem n b.0

-- one node, where f gives the expression of each child
build-declared : (n : Counts) (f : ℕ → Expr) (len i : ℕ) (d : Node) → UsesLater len i d → NodeWithin n d → ((j : ℕ) → j < len → ItemsDeclared n (f j)) → ItemsDeclared n (build f d)
unfolding ItemsDeclared
build-declared n f len i (Name c) l w g = tt
build-declared n f len i Top l w g = tt
build-declared n f len i (Not a) l w g = g a l.1
build-declared n f len i (And a b) l w g = (g a l.1, g b l.3)
build-declared n f len i (AtLeast k u a) l w g = g a l.1
build-declared n f len i (SelfOf u) l w g = tt
build-declared n f len i (One a) l w g = w

module _ {n : Counts} {u : Rule} (f : WellFormed u) (w : RuleWithin n u) where
  expr-declared : (left i : ℕ) → i < u.len → ItemsDeclared n (expr_at left u.nodes i)
  unfolding expr_at ItemsDeclared
  expr-declared zero i l = tt
  expr-declared (suc left) i l = build-declared n (expr_at left u.nodes) u.len i (node_at u.nodes i) (f.later i l) (w.nodes i l) (expr-declared left)

  root-declared : (h : Head) → HeadFits u.len h → HeadWithin n h → HeadDeclared n u.nodes h
  root-declared (Sub c d) a b = (expr-declared node_limit c a.0, expr-declared node_limit d a.1)
  root-declared (RoleSub r s) a b = tt
  root-declared (Chain k r1 r2 r3 r4 r) a b = a.0
  root-declared (Ref r) a b = tt
  root-declared (Irr r) a b = tt
  root-declared (Dis r s) a b = tt
  root-declared (In c i) a b = (expr-declared node_limit c a, b)
  root-declared (Rel r i j) a b = (b.1, b.2)
  root-declared (NoRel r i j) a b = (b.1, b.2)
  root-declared (Same i j) a b = b
  root-declared (Differ i j) a b = b

  pub head-declared : HeadDeclared n u.nodes u.head
  head-declared = root-declared u.head f.head w.head
