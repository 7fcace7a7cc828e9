-- Laws of rules as words: how the nodes are read, and which words are malformed. Assumes nothing.
use Rattle.std.specs.Prelude.{◌≡◌, refl, Bool, true, false, cond, List, [], ◌∷◌, ◌++◌, ℕ, zero, suc, ◌+◌, ◌*◌, ◌≤◌, ◌<◌, eqb, length, set, take}
use Rattle.std.proofs.Common.{sym, ap, ◌∙◌, subst, add-one, arith, ne_eqb, length-append, take-suc-set}
use Rattle.std.proofs.Math.Decide.{dec_lt}
use Rattle.std.proofs.Math.ListN.{get_or-append}
use Rattle.std.proofs.lemmas.List.{get_or_at}
use Rattle.rule.specs.declared.Node.TheVariants.{Name}
use Rattle.rule.specs.declared.Slot.{Slot}
use Rattle.rule.specs.Form.{HeadFits, UsesLater, WellFormed, node_at, node_limit}
use Rattle.spelled.specs.Rules.{count_place, first_place, head_of, kind_of, no_head, no_node, node_of, node_words, nodes_below, rule_of, rule_words, word}

-- one node more is read
pub nodes-more : (g : List ℕ) (i : ℕ) (s : List Slot) → i < length s → take i s ≡ nodes_below g i
    → take (i + 1) (set s i (record { node = node_of g (first_place + node_words * i) })) ≡ nodes_below g (i + 1)
unfolding nodes_below
nodes-more g i s h e =
    let a : Slot = record { node = node_of g (first_place + node_words * i) } in
    subst (λ (k : ℕ). take k (set s i a) ≡ nodes_below g k) (sym (add-one i)) (take-suc-set s i a h ∙ ap (λ (l : List Slot). l ++ a ∷ []) e)

-- so many nodes are read
pub nodes-length : (g : List ℕ) (n : ℕ) → length (nodes_below g n) ≡ n
unfolding nodes_below
nodes-length g zero = refl
nodes-length g (suc n) = omega (arith, nodes-length g n, length-append (nodes_below g n) (record { node = node_of g (first_place + node_words * n) } ∷ []))

-- each of them from its own words
pub node_at-nodes_below : (g : List ℕ) (n i : ℕ) → i < n → node_at (nodes_below g n) i ≡ node_of g (first_place + node_words * i)
unfolding nodes_below
node_at-nodes_below g zero i h = absurd (omega arith)
node_at-nodes_below g (suc n) i h = go (dec_lt i n) (λ l. node_at-nodes_below g n i l)
  where
    none : Slot
    none = record { node = Name (record { 0 = 0 }) }

    last : Slot
    last = record { node = node_of g (first_place + node_words * n) }

    go : Dec (i < n) → (i < n → node_at (nodes_below g n) i ≡ node_of g (first_place + node_words * i)) → node_at (nodes_below g n ++ last ∷ []) i ≡ node_of g (first_place + node_words * i)
    go (yes l) more = ap (λ (v : Slot). v.node) (get_or-append (nodes_below g n) (last ∷ []) none i (omega (arith, nodes-length g n))) ∙ more l
    go (no l) more =
        let e : n ≡ i = omega arith in
        ap (λ (v : Slot). v.node) (get_or_at (nodes_below g n) last [] none i (nodes-length g n ∙ e)) ∙ ap (λ (k : ℕ). node_of g (first_place + node_words * k)) e

-- ---- what is malformed

-- the head of no kind
no-head : (g : List ℕ) → head_of g ≡ no_head → ¬ (WellFormed (rule_of g))
no-head g e w =
    let h : HeadFits (word g count_place) no_head = subst (HeadFits (word g count_place)) e w.head in
    omega (arith, h.0, w.short)

-- words of another length
pub other_length : (g : List ℕ) → ¬ (length g ≡ rule_words) → ¬ (WellFormed (rule_of g))
unfolding head_of
other_length g h = no-head g (rw (ne_eqb (length g) rule_words h))

-- a kind of rule that there is not
pub other-kind : (g : List ℕ) → 10 < word g 0 → ¬ (WellFormed (rule_of g))
unfolding head_of kind_of
other-kind g h = no-head g (rw (beyond 0 (omega arith), beyond 1 (omega arith), beyond 2 (omega arith), beyond 3 (omega arith), beyond 4 (omega arith), beyond 5 (omega arith), beyond 6 (omega arith), beyond 7 (omega arith), beyond 8 (omega arith), beyond 9 (omega arith), beyond 10 (omega arith)) (same (eqb (length g) rule_words)))
  where
    beyond : (k : ℕ) → k ≤ 10 → eqb (word g 0) k ≡ false
    beyond k l = ne_eqb (word g 0) k (λ e. omega arith)

    same : (b : Bool) → cond b no_head no_head ≡ no_head
    same true = refl
    same false = refl

-- a kind of node that there is not, in a node that counts
pub other-node : (g : List ℕ) (i : ℕ) → i < word g count_place → 6 < word g (first_place + node_words * i) → ¬ (WellFormed (rule_of g))
unfolding node_of
other-node g i l h w =
    let at : ℕ = first_place + node_words * i in
    let e : node_of g at ≡ no_node = rw (beyond 0 (omega arith), beyond 1 (omega arith), beyond 2 (omega arith), beyond 3 (omega arith), beyond 4 (omega arith), beyond 5 (omega arith), beyond 6 (omega arith)) in
    let u : UsesLater (word g count_place) i no_node = subst (UsesLater (word g count_place) i) (node_at-nodes_below g node_limit i (omega (arith, w.short)) ∙ e) (w.later i l) in
    omega (arith, u.0)
  where
    beyond : (k : ℕ) → k ≤ 6 → eqb (word g (first_place + node_words * i)) k ≡ false
    beyond k j = ne_eqb (word g (first_place + node_words * i)) k (λ e. omega arith)
