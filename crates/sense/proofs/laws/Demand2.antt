-- The second half of demand 2: a compiled query has the findings as its answers, and no others. Assumes nothing.
use Rattle.std.specs.Prelude.{◌≡◌, refl, List, [], ◌∷◌, ℕ, ◌*◌, take, drop}
use Rattle.std.proofs.Math.Path.{sym}
use Rattle.std.proofs.Common.{ap, ◌∙◌, subst, take_at}
use native.Mathlib.Omega.{arith}
use Rattle.logic.specs.Number.{One}
use Rattle.store.specs.declared.Counts.{Counts}
use Rattle.store.specs.declared.Item.{Item}
use Rattle.store.specs.Cell.{Cell}
use Rattle.rule.specs.declared.Finding.{Finding}
use Rattle.rule.specs.declared.Head.{Head}
use Rattle.rule.specs.declared.Head.TheVariants.{Sub, RoleSub, Chain, Ref, Irr, Dis, In, Rel, NoRel, Same, Differ}
use Rattle.rule.specs.declared.Rule.{Rule}
use Rattle.rule.specs.Second.{Second}
use Rattle.std.specs.Prelude.{None, Some}
use Rattle.rule.specs.declared.Slot.{Slot}
use Rattle.rule.specs.Breaks.{Breaks}
use Rattle.rule.specs.Findings.{Findings, finding_of}
use Rattle.query.specs.Outcome.{compiled_as}
use Rattle.body.specs.Body.{flat, size}
use Rattle.body.specs.Translation.{answers_of, query_of}
use Rattle.query.specs.Promise.{Compilable, Compiles}
use Rattle.query.specs.Promise.Compiles.{compiled}
use Rattle.sense.specs.Demand2.{Shown, SameAnswers}
use Rattle.sense.specs.Demand2.Shown.{yes, alone, pair}
use Rattle.body.specs.laws.Body.{length-flat}
use Rattle.sense.proofs.laws.Answers.{answers-rule}

module _ (C : Cell → Type 0) (n : Counts) where
  -- what breaks a rule shows in the answer variables
  shown-head : (len : ℕ) (ns : List Slot) (h : Head) (x : ℕ) (s : Second) → Breaks C n (record { head = h; len = len; nodes = ns }) x s → (xs : List ℕ) × Shown (answers_of h) x s xs
  shown-head len ns (Sub c d) x None b = (x ∷ [], alone)
  shown-head len ns (Sub c d) x (Some y) b = absurd b.2
  shown-head len ns (RoleSub r q) x None b = absurd b.1
  shown-head len ns (RoleSub r q) x (Some y) b = (x ∷ y.0 ∷ [], pair)
  shown-head len ns (Chain k r1 r2 r3 r4 r) x None b = absurd b.1
  shown-head len ns (Chain k r1 r2 r3 r4 r) x (Some y) b = (x ∷ y.0 ∷ [], pair)
  shown-head len ns (Ref r) x None b = (x ∷ [], alone)
  shown-head len ns (Ref r) x (Some y) b = absurd b.2
  shown-head len ns (Irr r) x None b = (x ∷ [], alone)
  shown-head len ns (Irr r) x (Some y) b = absurd b.2
  shown-head len ns (Dis r q) x None b = absurd b.1
  shown-head len ns (Dis r q) x (Some y) b = (x ∷ y.0 ∷ [], pair)
  shown-head len ns (In c a) x s b = ([], yes)
  shown-head len ns (Rel r a c) x s b = ([], yes)
  shown-head len ns (NoRel r a c) x s b = ([], yes)
  shown-head len ns (Same a c) x s b = ([], yes)
  shown-head len ns (Differ a c) x s b = ([], yes)

  -- the place of the one finding of a rule without x
  Place : Head → ℕ → Second → Type 0
  Place (Sub c d) x s = ⊥
  Place (RoleSub r q) x s = ⊥
  Place (Chain k r1 r2 r3 r4 r) x s = ⊥
  Place (Ref r) x s = ⊥
  Place (Irr r) x s = ⊥
  Place (Dis r q) x s = ⊥
  Place (In c a) x s = (x ≡ a.0) × (s ≡ None)
  Place (Rel r a b) x s = (x ≡ a.0) × (s ≡ Some b)
  Place (NoRel r a b) x s = (x ≡ a.0) × (s ≡ Some b)
  Place (Same a b) x s = (x ≡ a.0) × (s ≡ Some b)
  Place (Differ a b) x s = (x ≡ a.0) × (s ≡ Some b)

  item-is : (y b : Item) → y.0 ≡ b.0 → Some y ≡ Some b
  item-is y b e = ap (λ (v : ℕ). Some (record { 0 = v })) e

  place-head : (len : ℕ) (ns : List Slot) (h : Head) (x : ℕ) (s : Second) → answers_of h ≡ 0 → Breaks C n (record { head = h; len = len; nodes = ns }) x s → Place h x s
  unfolding Place
  place-head len ns (Sub c d) x s e b = omega arith
  place-head len ns (RoleSub r q) x s e b = omega arith
  place-head len ns (Chain k r1 r2 r3 r4 r) x s e b = omega arith
  place-head len ns (Ref r) x s e b = omega arith
  place-head len ns (Irr r) x s e b = omega arith
  place-head len ns (Dis r q) x s e b = omega arith
  place-head len ns (In c a) x None e b = (b.1.0, refl)
  place-head len ns (In c a) x (Some y) e b = absurd b.2
  place-head len ns (Rel r a c) x None e b = absurd b.1
  place-head len ns (Rel r a c) x (Some y) e b = (b.2.0, item-is y c b.2.1)
  place-head len ns (NoRel r a c) x None e b = absurd b.1
  place-head len ns (NoRel r a c) x (Some y) e b = (b.2.0, item-is y c b.2.1)
  place-head len ns (Same a c) x None e b = absurd b.1
  place-head len ns (Same a c) x (Some y) e b = (b.2.0, item-is y c b.2.1)
  place-head len ns (Differ a c) x None e b = absurd b.1
  place-head len ns (Differ a c) x (Some y) e b = (b.2.0, item-is y c b.2.1)

  one_place : (h : Head) (x y : ℕ) (s t : Second) → Place h x s → Place h y t → (x ≡ y) × (s ≡ t)
  unfolding Place
  one_place (In c a) x y s t p q = (p.0 ∙ sym q.0, p.1 ∙ sym q.1)
  one_place (Rel r a b) x y s t p q = (p.0 ∙ sym q.0, p.1 ∙ sym q.1)
  one_place (NoRel r a b) x y s t p q = (p.0 ∙ sym q.0, p.1 ∙ sym q.1)
  one_place (Same a b) x y s t p q = (p.0 ∙ sym q.0, p.1 ∙ sym q.1)
  one_place (Differ a b) x y s t p q = (p.0 ∙ sym q.0, p.1 ∙ sym q.1)
  one_place (Sub c d) x y s t p q = absurd p
  one_place (RoleSub r a) x y s t p q = absurd p
  one_place (Chain k r1 r2 r3 r4 r) x y s t p q = absurd p
  one_place (Ref r) x y s t p q = absurd p
  one_place (Irr r) x y s t p q = absurd p
  one_place (Dis r a) x y s t p q = absurd p

  -- a rule without x has one finding at most
  one-finding : {number : ℕ} (u : Rule) {fs : List Finding} → Findings C n number u fs → answers_of u.head ≡ 0 → (f g : Finding) → One f fs → One g fs → f ≡ g
  one-finding {number} u h e f g o p =
      let a = h.sound f o in
      let b = h.sound g p in
      let z = one_place u.head f.item.0 g.item.0 f.second g.second (place-head u.len u.nodes u.head f.item.0 f.second e a.1) (place-head u.len u.nodes u.head g.item.0 g.second e b.1) in
      ap (λ (k : ℕ). finding_of k f.item.0 f.second) (a.0 ∙ sym b.0)
      ∙ ap (λ (x : ℕ). finding_of g.rule x f.second) z.0
      ∙ ap (λ (s : Second). finding_of g.rule g.item.0 s) z.1

  -- the answers of a query that is written out are the findings
  same-answers : {W number : ℕ} (u : Rule) (room : List ℕ) (fs : List Finding) → Compilable W n u room → Findings C n number u fs → SameAnswers C n (answers_of u.head) (flat (query_of u)) fs
  same-answers {W} {number} u room fs d h = record {
    exactly = λ xs. let a = answers-rule C n u d.form.head d.within.head d.short xs in (
      (λ z. let b = a.0 z in (finding_of number b.0 b.1, h.whole b.0 b.1 b.3, b.2)),
      (λ z. a.1 (z.0.item.0, z.0.second, z.2, (h.sound z.0 z.1).1)),
    );
    every = λ f o. shown-head u.len u.nodes u.head f.item.0 f.second (h.sound f o).1;
    only = λ e f g o p. one-finding u h e f g o p;
  }

  -- what compiling promises is what the demand asks, over the cells of any store, closed ones among them
  pub demand-2-query : {W number : ℕ} {u : Rule} {before after : List ℕ} {items k : ℕ} {fs : List Finding} → Compiles W n u before after (compiled_as items k) → Findings C n number u fs
      → SameAnswers C n k (take (4 * items) after) fs
  demand-2-query {W} {number} {u} {before} {after} {items} {k} {fs} (compiled d e) h =
      subst (λ ws. SameAnswers C n (answers_of u.head) ws fs)
      (sym (ap (take (4 * size (query_of u))) e ∙ take_at (flat (query_of u)) (drop (4 * size (query_of u)) before) (4 * size (query_of u)) (length-flat (query_of u))))
      (same-answers {W = W} u before fs d h)
