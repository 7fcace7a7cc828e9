-- `spelled::rules::nodes` meets its contract: the calls leave the words as they were, and each reads its own node. Assumes nothing.
use Rattle.std.specs.Prelude.{◌≡◌, List, ℕ, zero, suc, ◌+◌, ◌*◌, ◌≤◌, ◌<◌}
use Rattle.std.proofs.Common.{sym, refl, ap, subst, ◌∙◌, get_or, arith, rules}
use Rattle.std.specs.Array.{IsFromFnResultFrom}
use Rattle.std.specs.Fn.{Called, Mut}
use Rattle.std.proofs.Math.Decide.{ℕ_discrete}
use Rattle.std.proofs.Math.Logic.{by_cases}
use Rattle.std.proofs.lemmas.List.{ext_get_or}
use Rattle.rule.specs.declared.Node.TheVariants.{Name}
use Rattle.rule.specs.declared.Slot.{Slot}
use Rattle.spelled.specs.Rules.{first_place, node_of, node_words}
use Rattle.spelled.specs.laws.Rules.{node_at-nodes_below, nodes-length}
use Rattle.spelled.proofs.rules.nodes.Goals as goal

-- each element is what a call from f gives, where calls leave f as it was
module _ {F : Type 0} {g : Mut F (ℕ × Unit {0}) Slot} (f : F) (P : ℕ → Slot) (stays : (i : ℕ) (y : Slot) (q : F) → Called g f (i, tt) y q → (q ≡ f) × (y ≡ P i)) where
  given : (ys : List Slot) (h : F) → h ≡ f → (n i : ℕ) → IsFromFnResultFrom g h ys i n → (k : ℕ) (d : Slot) → i ≤ k → k < i + n → get_or ys k d ≡ P k
  given ys h e zero i r k d a b = absurd (omega arith)
  given ys h e (suc n) i r k d a b =
      let s = stays i r.1 r.0 (subst (λ x. Called g x (i, tt) r.1 r.0) e r.3) in
      by_cases (ℕ_discrete k i)
      (λ same. ap (λ j. get_or ys j d) same ∙ r.2.1 d ∙ s.1 ∙ ap P (sym same))
      (λ ne. given ys r.0 s.0 n (i + 1) r.4 k d (omega arith) (omega arith))

pub returns : goal.returns
returns c =
    let none : Slot = record { node = Name (record { 0 = 0 }) } in
    let own : ℕ → Slot = λ i. record { node = node_of c.args.given.now (first_place + node_words * i) } in
    let r = c.from_fn.ensures.items in
    ext_get_or none _ _ (r.long ∙ sym (nodes-length c.args.given.now 32)) (λ i l.
    given _ own (λ i y q k. search rules) _ _ refl 32 0 r.each i none (omega arith) (omega (arith, r.long))
    ∙ sym (ap (λ v. let s : Slot = record { node = v } in s) (node_at-nodes_below c.args.given.now 32 i (omega (arith, r.long)))))
