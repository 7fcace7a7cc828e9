-- Which variables a query meets: those of an expression lie between the next free one and that after it. Assumes nothing.
use Rattle.std.specs.Prelude.{◌≡◌, ◌⊎◌, Bool, true, false, List, [], ◌∷◌, ℕ, zero, suc, ◌+◌, ◌*◌, ◌≤◌, ◌<◌}
use Rattle.std.proofs.Common.{sym, subst, inl, inr, ⊎_elim, suc-mul, arith}
use Rattle.rule.specs.declared.RoleUse.{RoleUse}
use Rattle.rule.specs.Expr.{Expr}
use Rattle.rule.specs.Expr.Expr.{name, top, neg, both, many, own, one}
use Rattle.body.specs.Body.{first_item, Atom, is_a, rel, eq, Body}
use Rattle.sense.specs.Says.{Met, meet, meets}
use Rattle.body.specs.Translation.{link_way, link, variables, turns, news, apart, pairs, of_expr}
use Rattle.sense.specs.laws.Says.{meets-⊕}

-- each of the list has the property
abbrev pub EachOf : (ℕ → Type 0) → List ℕ → Type 0
EachOf P [] = Unit {0}
EachOf P (b ∷ bs) = P b × EachOf P bs

-- what is met lies below v
abbrev pub Below : Met → ℕ → Type 0
Below s v = (w : ℕ) → s w → w < first_item → w < v

pub below_up : (s : Met) (v k : ℕ) → v ≤ k → Below s v → Below s k
below_up s v k le b w m lt = let h = b w m lt in omega arith

below-atom : (a : Atom) (s : Met) (v : ℕ) → ((w : ℕ) → meet a (λ _. ⊥) w → w < first_item → w < v) → Below s v → Below (meet a s) v
below-atom (is_a A t) s v f b w m lt = ⊎_elim (λ e. f w (inl e) lt) (λ h. b w h lt) m
below-atom (rel R t u) s v f b w m lt = ⊎_elim (λ e. f w (inl e) lt) (⊎_elim (λ e. f w (inr (inl e)) lt) (λ h. b w h lt)) m
below-atom (eq t u) s v f b w m lt = ⊎_elim (λ e. f w (inl e) lt) (⊎_elim (λ e. f w (inr (inl e)) lt) (λ h. b w h lt)) m

two : (t u w v : ℕ) → (t < first_item → t < v) → (u < first_item → u < v) → ((w ≡ t) ⊎ ((w ≡ u) ⊎ ⊥)) → w < first_item → w < v
two t u w v ht hu m lt = ⊎_elim (λ e. subst (λ x. x < v) (sym e) (ht (subst (λ x. x < first_item) e lt))) (⊎_elim (λ e. subst (λ x. x < v) (sym e) (hu (subst (λ x. x < first_item) e lt))) (λ z. absurd z)) m

below-way : (i : Bool) (r t u : ℕ) (s : Met) (v : ℕ) → (t < first_item → t < v) → (u < first_item → u < v) → Below s v → Below (meet (link_way i r t u) s) v
below-way false r t u s v ht hu b = below-atom (rel r t u) s v (λ w m lt. two t u w v ht hu m lt) b
below-way true r t u s v ht hu b = below-atom (rel r u t) s v (λ w m lt. two u t w v hu ht m lt) b

pub below-link : (R : RoleUse) (t u : ℕ) (s : Met) (v : ℕ) → (t < first_item → t < v) → (u < first_item → u < v) → Below s v → Below (meet (link R t u) s) v
below-link R t u s v ht hu b = below-way R.inverse R.role.0 t u s v ht hu b

below_apart : (y : ℕ) (zs : List ℕ) (s : Met) (v : ℕ) → y < v → EachOf (λ z. z < v) zs → Below s v → Below (meets (apart y zs) s) v
below_apart y [] s v hy hz b = b
below_apart y (z ∷ zs) s v hy hz b = below_apart y zs (meet (eq y z) s) v hy hz.1 (below-atom (eq y z) s v (λ w m lt. two y z w v (λ _. hy) (λ _. hz.0) m lt) b)

below-pairs : (ys : List ℕ) (s : Met) (v : ℕ) → EachOf (λ z. z < v) ys → Below s v → Below (meets (pairs ys) s) v
below-pairs [] s v h b = b
below-pairs (y ∷ ys) s v h b = rw (meets-⊕ (apart y ys) (pairs ys) s) (below-pairs ys (meets (apart y ys) s) v h.1 (below_apart y ys s v h.0 h.1 b))

each-up : (ys : List ℕ) (v k : ℕ) → v ≤ k → EachOf (λ z. z < v) ys → EachOf (λ z. z < k) ys
each-up [] v k le h = tt
each-up (y ∷ ys) v k le h = ((let z = h.0 in omega arith), each-up ys v k le h.1)

news-below : (u n v : ℕ) → EachOf (λ z. z < v + n * (u + 1)) (news (u + 1) n v)
news-below u zero v = tt
news-below u (suc n) v = (omega (arith, suc-mul n (u + 1)), each-up (news (u + 1) n (v + (u + 1))) (v + (u + 1) + n * (u + 1)) (v + suc n * (u + 1)) (omega (arith, suc-mul n (u + 1))) (news-below u n (v + (u + 1))))

-- what is met by n turns
below-turns : (c : ℕ → ℕ → Body) (u : ℕ) → ((t v : ℕ) (s : Met) → Below s v → (t < first_item → t < v) → Below (meets (c t v) s) (v + u))
    → (R : RoleUse) (n t v : ℕ) (s : Met) → Below s v → (t < first_item → t < v) → Below (meets (turns c R (u + 1) n t v) s) (v + n * (u + 1))
below-turns c u ih R zero t v s b ht = below_up s v _ (omega arith) b
below-turns c u ih R (suc n) t v s b ht =
    let s₁ : Met = meet (link R t v) s in
    let b₁ : Below s₁ (v + 1) = below-link R t v s (v + 1) (λ l. let h = ht l in omega arith) (λ _. omega arith) (below_up s v (v + 1) (omega arith) b) in
    let b₂ : Below (meets (c v (v + 1)) s₁) (v + 1 + u) = ih v (v + 1) s₁ b₁ (λ _. omega arith) in
    let b₃ : Below (meets (c v (v + 1)) s₁) (v + (u + 1)) = below_up _ _ _ (omega arith) b₂ in
    rw (meets-⊕ (c v (v + 1)) (turns c R (u + 1) n t (v + (u + 1))) s₁) (below_up _ (v + (u + 1) + n * (u + 1)) _ (omega (arith, suc-mul n (u + 1))) (below-turns c u ih R n t (v + (u + 1)) (meets (c v (v + 1)) s₁) b₃ (λ l. let h = ht l in omega arith)))

pub below-expr : (e : Expr) (t v : ℕ) (s : Met) → Below s v → (t < first_item → t < v) → Below (meets (of_expr e t v) s) (v + variables e)
below-expr (name A) t v s b ht = below_up _ v _ (omega arith) (below-atom (is_a A.0 t) s v (λ w m lt. ⊎_elim (λ e. subst (λ x. x < v) (sym e) (ht (subst (λ x. x < first_item) e lt))) (λ z. absurd z) m) b)
below-expr top t v s b ht = below_up _ v _ (omega arith) b
below-expr (neg C) t v s b ht = below-expr C t v s b ht
below-expr (both C D) t v s b ht = rw (meets-⊕ (of_expr C t v) (of_expr D t (v + variables C)) s) (below_up _ (v + variables C + variables D) _ (omega arith) (below-expr D t (v + variables C) (meets (of_expr C t v) s) (below-expr C t v s b ht) (λ l. let h = ht l in omega arith)))
below-expr (many n R C) t v s b ht = rw (meets-⊕ (turns (of_expr C) R (variables C + 1) n t v) (pairs (news (variables C + 1) n v)) s) (below-pairs (news (variables C + 1) n v) _ _ (news-below (variables C) n v) (below-turns (of_expr C) (variables C) (below-expr C) R n t v s b ht))
below-expr (own R) t v s b ht = below_up _ v _ (omega arith) (below-link R t t s v ht ht b)
below-expr (one a) t v s b ht = below_up _ v _ (omega arith) (below-atom (eq t (first_item + a.0)) s v (λ w m lt. two t (first_item + a.0) w v ht (λ l. omega arith) m lt) b)
