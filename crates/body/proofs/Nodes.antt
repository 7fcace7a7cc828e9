-- The expression at a node that was read, which is known by its kind. Assumes nothing.
use Rattle.std.specs.Prelude.{◌≡◌, List, ℕ, ◌-◌}
use Rattle.std.proofs.Common.{sym, subst}
use Rattle.rule.specs.declared.Node.{Node}
use Rattle.rule.specs.declared.Slot.{Slot}
use Rattle.rule.specs.Form.{node_at}
use Rattle.rule.specs.Expr.{build, expr_at}
use Rattle.body.specs.declared.Cursor.{Cursor}
use Rattle.body.specs.own.Writing.{Roomy, Written, Capped}
use Rattle.body.specs.laws.Writing.{at-node}

module _ {k : ℕ} (ns : List Slot) (i : ℕ) {r d : Node} (h : ¬ (k ≡ 0)) (e : r ≡ node_at ns i) (f : r ≡ d) where
  -- the room for it
  pub roomy_at : {l : List ℕ} {c : Cursor} → Roomy l c (expr_at k ns i) → Roomy l c (build (expr_at (k - 1) ns) d)
  roomy_at {l} {c} s = subst (Roomy l c) (at-node k ns i r d h e f) s

  -- what was written of it
  pub written_at : {l l₁ : List ℕ} {c c₁ : Cursor} {t : ℕ} → Written l l₁ c c₁ t (build (expr_at (k - 1) ns) d) → Written l l₁ c c₁ t (expr_at k ns i)
  written_at {l} {l₁} {c} {c₁} {t} w = subst (Written l l₁ c c₁ t) (sym (at-node k ns i r d h e f)) w

  -- its length
  pub capped_at : {n : ℕ} → Capped (build (expr_at (k - 1) ns) d) n → Capped (expr_at k ns i) n
  capped_at {n} c = subst (λ x. Capped x n) (sym (at-node k ns i r d h e f)) c
