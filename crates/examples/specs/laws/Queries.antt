-- The examples about queries. Assumes nothing.
use Rattle.std.specs.Prelude.{◌≡◌, refl, List, length}
use Rattle.std.proofs.Math.Path.{ap, ap₂}
use Rattle.std.proofs.Common.{◌∙◌}
use Prim.Native.Nat.{ℕ, zero, suc, ◌+◌, ◌≤◌, ◌<◌}
use native.Mathlib.Omega.{arith}
use Rattle.store.specs.declared.Counts.{Counts}
use Rattle.store.specs.Layout.{large}
use Rattle.rule.specs.declared.Rule.{Rule}
use Rattle.rule.specs.Form.{CountFits, NodeWithin, RuleWithin, UsesLater, WellFormed, node_at, root_uses, uses_below}
use Rattle.query.specs.Outcome.{Outcome}
use Rattle.query.specs.Outcome.{compiled_as}
use Rattle.std.specs.Prelude.{Err}
use Rattle.query.specs.declared.QueryRefusal.TheVariants.{Room}
use Rattle.body.specs.Body.{size}
use Rattle.body.specs.Length.{length_of, head_length}
use Rattle.query.specs.Promise.{Compiles}
use Rattle.query.specs.Promise.Compiles.{compiled, refused}
use Rattle.body.specs.Translation.{answers_of, query_of}
use Rattle.body.specs.laws.Length.{head-length}
use Rattle.query.specs.laws.Promise.{compiles-unique, refused-6}
use Rattle.examples.specs.Examples.{BladesFit}
use Rattle.examples.specs.laws.AtLeast.{expr_left, expr-right}

module _ {n : Counts} {u : Rule} (b : BladesFit n u) where
  -- the rule is accepted: it is well formed
  form : WellFormed u
  unfolding uses_below
  form = record {
    short = omega (arith, b.nodes);
    head = rw b.rule.head (omega (arith, b.nodes), omega (arith, b.nodes));
    later = λ i l. rw b.nodes (after i (omega (arith, b.nodes)));
    counts = λ i l. fit i (omega (arith, b.nodes));
    once = λ j l. rw b.nodes (uses j (omega (arith, b.nodes)));
  }
    where
      after : (i : ℕ) → i < 3 → UsesLater 3 i (node_at u.nodes i)
      after zero l = rw b.rule.left tt
      after (suc zero) l = rw b.rule.right (omega arith, omega arith)
      after (suc (suc zero)) l = rw b.rule.filler tt
      after (suc (suc (suc i))) l = absurd (omega arith)

      fit : (i : ℕ) → i < 3 → CountFits (node_at u.nodes i)
      fit zero l = rw b.rule.left tt
      fit (suc zero) l = rw b.rule.right (omega arith, omega arith)
      fit (suc (suc zero)) l = rw b.rule.filler tt
      fit (suc (suc (suc i))) l = absurd (omega arith)

      uses : (j : ℕ) → j < 3 → root_uses u.head j + uses_below u.nodes j 3 ≡ 1
      uses zero l = rw (b.rule.head, b.rule.left, b.rule.right, b.rule.filler)
      uses (suc zero) l = rw (b.rule.head, b.rule.left, b.rule.right, b.rule.filler)
      uses (suc (suc zero)) l = rw (b.rule.head, b.rule.left, b.rule.right, b.rule.filler)
      uses (suc (suc (suc j))) l = absurd (omega arith)

  -- and its numbers are below their counts
  within : RuleWithin n u
  within = record { head = rw b.rule.head tt; nodes = λ i l. inside i (omega (arith, b.nodes)) }
    where
      inside : (i : ℕ) → i < 3 → NodeWithin n (node_at u.nodes i)
      inside zero l = rw b.rule.left (omega (arith, b.concepts))
      inside (suc zero) l = rw b.rule.right (omega (arith, b.roles))
      inside (suc (suc zero)) l = rw b.rule.filler (omega (arith, b.concepts))
      inside (suc (suc (suc i))) l = absurd (omega arith)

  -- the length of its query
  five : size (query_of u) ≡ 5
  unfolding head_length
  five =
      head-length u.len u.nodes u.head form.head ∙ ap (head_length u.nodes) b.rule.head
      ∙ ap₂ (λ c d. length_of c + 2 + length_of d) (expr_left 1 u b.rule) (expr-right 1 u b.rule)

  pub five-items : {before after : List ℕ} {r : Outcome} → 20 ≤ length before → Compiles large n u before after r → r ≡ compiled_as 5 1
  five-items l c =
      (compiles-unique c (compiled (record { fits = b.fits; form = form; within = within; short = omega (arith, five); enough = omega (arith, five) }) refl)).0
      ∙ ap₂ compiled_as five (ap answers_of b.rule.head)

  pub five-items-room : {before after : List ℕ} {r : Outcome} → length before < 20 → Compiles large n u before after r → r ≡ Err Room
  five-items-room l c = (compiles-unique c (refused (refused-6 b.fits form within (omega (arith, five)) (omega (arith, five))) refl)).0
