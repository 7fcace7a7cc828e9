-- Laws of the rows of an expression: a node's row follows from its children's rows. Assumes nothing.
use Rattle.std.specs.Prelude.{◌≡◌, Bool, not, true, List, ℕ, ◌-◌}
use Rattle.std.proofs.Math.Path.{refl, subst}
use Rattle.std.proofs.Common.{sym, ap, ◌∙◌, true≢false}
use Rattle.std.proofs.lemmas.Bool.{not-true}
use Rattle.row.specs.own.Row.{RowHas}
use Rattle.row.specs.own.Pick.{Marks}
use Rattle.store.specs.declared.Counts.{Counts}
use Rattle.store.specs.Cell.{Cell}
use Rattle.store.specs.Cell.Cell.{Same}
use Rattle.store.specs.Layout.{ClosedStore, Holds}
use Rattle.rule.specs.declared.Node.{Node}
use Rattle.rule.specs.declared.Node.TheVariants.{Name, Top, Not, And, AtLeast, SelfOf, One}
use Rattle.rule.specs.declared.Slot.{Slot}
use Rattle.rule.specs.Form.{node_at}
use Rattle.rule.specs.Expr.{Expr, build, expr_at}
use Rattle.rule.specs.Meaning.{HoldsOf}
use Rattle.expression.specs.own.Row.{NodeHolds, first_child, has_first, has_second, second_child}
use Rattle.row.specs.laws.Marks.{marks-iff}
use Rattle.rule.specs.laws.Tree.{expr_at-step}
use Rattle.rule.proofs.laws.Articles.{articles-iff}

-- the items that are the same as a, from the row of "same" at a
pub alike-marks : {W : ℕ} {n : Counts} {s r : List ℕ} (a : ℕ) → ClosedStore W n s → Marks n.items r (λ x. Holds W n s (Same a x)) → Marks n.items r (λ x. Holds W n s (Same x a))
alike-marks a k f = let o = k.closed.obeys in marks-iff (λ x l h. o.same-sym h) (λ x l h. o.same-sym h) f

-- what is there only where a test says yes, and the code saw it say no
pub none-such : {A : Type 0} {r b : Bool} → r ≡ b → not r ≡ true → b ≡ true → A
none-such {r = r} e f h = absurd (true≢false (sym h ∙ sym e ∙ not-true r f))

-- a node with a second child has a first
pub second-first : (d : Node) → has_second d ≡ true → has_first d ≡ true
second-first (Name c) h = h
second-first Top h = h
second-first (Not a) h = refl
second-first (And a b) h = refl
second-first (AtLeast k u a) h = refl
second-first (SelfOf u) h = h
second-first (One a) h = h

module _ (C : Cell → Type 0) (n : Counts) where
  -- the row of a node from those of its children, whose expressions f gives
  pub node-marks : (f : ℕ → Expr) (d : Node) {p q r : List ℕ} → (has_first d ≡ true → Marks n.items p (HoldsOf C n (f (first_child d))))
      → (has_second d ≡ true → Marks n.items q (HoldsOf C n (f (second_child d)))) → Marks n.items r (NodeHolds C n d (RowHas p) (RowHas q)) → Marks n.items r (HoldsOf C n (build f d))
  unfolding HoldsOf
  node-marks f (Name c) hp hq m = m
  node-marks f Top hp hq m = m
  node-marks f (Not a) hp hq m = let P = hp refl in marks-iff (λ x l h z. h (P.whole x l z)) (λ x l h z. h (P.sound x z).1) m
  node-marks f (And a b) hp hq m =
      let P = hp refl in
      let Q = hq refl in
      marks-iff (λ x l h. ((P.sound x h.0).1, (Q.sound x h.1).1)) (λ x l h. (P.whole x l h.0, Q.whole x l h.1)) m
  node-marks f (AtLeast k u a) hp hq m =
      let P = hp refl in
      marks-iff (λ x l. articles-iff (λ b lb h. (h.0, (P.sound b h.1).1))) (λ x l. articles-iff (λ b lb h. (h.0, P.whole b lb h.1))) m
  node-marks f (SelfOf u) hp hq m = m
  node-marks f (One a) hp hq m = m

  -- p is the row of the expression at the child, one node less deep; a is the child's number as the code has it
  abbrev pub ChildRow : List Slot → ℕ → ℕ → List ℕ → Type 0
  ChildRow ns left child p = (a : ℕ) × (a ≡ child) × Marks n.items p (HoldsOf C n (expr_at (left - 1) ns a))

  child-marks : (ns : List Slot) (left child : ℕ) {p : List ℕ} → ChildRow ns left child p → Marks n.items p (HoldsOf C n (expr_at (left - 1) ns child))
  child-marks ns left child {p} (a, e, m) = subst (λ (b : ℕ). Marks n.items p (HoldsOf C n (expr_at (left - 1) ns b))) e m

  -- the row of the expression at node i, `left` nodes deep
  pub row-marks : (ns : List Slot) (i left : ℕ) (p q : List ℕ) {d : Node} {r : List ℕ} → ¬ (left ≡ 0) → d ≡ node_at ns i
      → (has_first d ≡ true → ChildRow ns left (first_child d) p) → (has_second d ≡ true → ChildRow ns left (second_child d) q)
      → Marks n.items r (NodeHolds C n d (RowHas p) (RowHas q)) → Marks n.items r (HoldsOf C n (expr_at left ns i))
  row-marks ns i left p q {d} {r} z e hp hq m =
      subst (λ (t : Expr). Marks n.items r (HoldsOf C n t)) (ap (build (expr_at (left - 1) ns)) e ∙ sym (expr_at-step left ns i z))
      (node-marks (expr_at (left - 1) ns) d (λ h. child-marks ns left (first_child d) (hp h)) (λ h. child-marks ns left (second_child d) (hq h)) m)

  -- with no node left it is top
  pub row-top : (ns : List Slot) (i left : ℕ) (P Q : ℕ → Type 0) {r : List ℕ} → left ≡ 0 → Marks n.items r (NodeHolds C n Top P Q) → Marks n.items r (HoldsOf C n (expr_at left ns i))
  unfolding expr_at HoldsOf
  row-top ns i left P Q {r} e m = subst (λ (k : ℕ). Marks n.items r (HoldsOf C n (expr_at k ns i))) (sym e) m
