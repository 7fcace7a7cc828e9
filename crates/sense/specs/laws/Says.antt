-- Laws of what a query says: it depends only on the variables met, and its parts can be told apart. Assumes nothing.
use Rattle.std.specs.Prelude.{◌≡◌, refl, ℕ, ◌+◌, ◌-◌, ◌<◌}
use Rattle.std.proofs.Common.{sym, ◌∙◌, subst, subst₂, inl, inr, arith}
use Rattle.std.proofs.Math.Logic.{if_pos, if_neg, by_cases}
use Rattle.std.proofs.Math.Decide.{dec_lt}
use Rattle.store.specs.declared.Counts.{Counts}
use Rattle.store.specs.Cell.{Cell}
use Rattle.store.specs.Cell.Cell.{Same, In, Link}
use Rattle.body.specs.Body.{first_item, Atom, is_a, rel, eq, Body, end, atom, not, ◌⊕◌}
use Rattle.sense.specs.Says.{Values, Met, val, meet, meets, Agree, InRange, HoldsAtom, All}

-- ---- what is met

pub meets-⊕ : (p q : Body) (s : Met) → meets (p ⊕ q) s ≡ meets q (meets p s)
meets-⊕ end q s = refl
meets-⊕ (atom a p) q s = meets-⊕ p q (meet a s)
meets-⊕ (not p r) q s = meets-⊕ r q (meets p s)

pub meet-mono : (a : Atom) (s : Met) (w : ℕ) → s w → meet a s w
meet-mono (is_a A t) s w h = inr h
meet-mono (rel R t u) s w h = inr (inr h)
meet-mono (eq t u) s w h = inr (inr h)

pub mono : (q : Body) (s : Met) (w : ℕ) → s w → meets q s w
mono end s w h = h
mono (atom a q) s w h = mono q (meet a s) w (meet-mono a s w h)
mono (not p q) s w h = mono q (meets p s) w (mono p s w h)

-- ---- terms

pub val-var : (σ : Values) (t : ℕ) → t < first_item → val σ t ≡ σ t
unfolding val
val-var σ t h = if_pos (dec_lt t first_item) h (σ t) (t - first_item)

val-other : (σ : Values) (t : ℕ) → (t < first_item → ⊥) → val σ t ≡ t - first_item
unfolding val
val-other σ t h = if_neg (dec_lt t first_item) h (σ t) (t - first_item)

pub val-item : (σ : Values) (a : ℕ) → val σ (first_item + a) ≡ a
val-item σ a = val-other σ (first_item + a) (λ h. omega arith) ∙ omega arith

pub val-agree : (s : Met) (σ τ : Values) (t : ℕ) → Agree s σ τ → (t < first_item → s t) → val σ t ≡ val τ t
val-agree s σ τ t ag k = by_cases (dec_lt t first_item) (λ h. val-var σ t h ∙ ag t (k h) ∙ sym (val-var τ t h)) (λ h. val-other σ t h ∙ sym (val-other τ t h))

agree_trans : (s : Met) (σ τ ρ : Values) → Agree s σ τ → Agree s τ ρ → Agree s σ ρ
agree_trans s σ τ ρ f g v h = f v h ∙ g v h

module _ (K : Cell → Type 0) (N : Counts) where
  -- there are values for what is not met yet at which all holds
  abbrev pub Exists : Met → Values → Body → Type 0
  Exists s σ q = (τ : Values) × InRange K N τ × Agree s σ τ × All K N s τ q

  frame-atom : (a : Atom) (s : Met) (σ τ : Values) → Agree (meet a s) σ τ → HoldsAtom K N σ a → HoldsAtom K N τ a
  frame-atom (is_a A t) s σ τ ag h = subst (λ a. K (In a A)) (val-agree (meet (is_a A t) s) σ τ t ag (λ _. inl refl)) h
  frame-atom (rel R t u) s σ τ ag h = subst₂ (λ a b. K (Link R a b)) (val-agree (meet (rel R t u) s) σ τ t ag (λ _. inl refl)) (val-agree (meet (rel R t u) s) σ τ u ag (λ _. inr (inl refl))) h
  frame-atom (eq t u) s σ τ ag h = subst₂ (λ a b. K (Same a b)) (val-agree (meet (eq t u) s) σ τ t ag (λ _. inl refl)) (val-agree (meet (eq t u) s) σ τ u ag (λ _. inr (inl refl))) h

  -- what a query says at σ it says at each τ that agrees with σ on what is met
  pub frame : (q : Body) (s : Met) (σ τ : Values) → Agree (meets q s) σ τ → All K N s σ q → All K N s τ q
  frame end s σ τ ag h = tt
  frame (atom a q) s σ τ ag h = (frame-atom a s σ τ (λ w m. ag w (mono q (meet a s) w m)) h.0, frame q (meet a s) σ τ ag h.1)
  frame (not p q) s σ τ ag h = ((λ e. h.0 (e.0, e.1, agree_trans s σ τ e.0 (λ w m. ag w (mono q (meets p s) w (mono p s w m))) e.2, e.3)), frame q (meets p s) σ τ ag h.1)

  pub split : (p q : Body) (s : Met) (σ : Values) → All K N s σ (p ⊕ q) → All K N s σ p × All K N (meets p s) σ q
  split end q s σ h = (tt, h)
  split (atom a p) q s σ h = let r = split p q (meet a s) σ h.1 in ((h.0, r.0), r.1)
  split (not p r) q s σ h = let z = split r q (meets p s) σ h.1 in ((h.0, z.0), z.1)

  pub join : (p q : Body) (s : Met) (σ : Values) → All K N s σ p → All K N (meets p s) σ q → All K N s σ (p ⊕ q)
  join end q s σ h k = k
  join (atom a p) q s σ h k = (h.0, join p q (meet a s) σ h.1 k)
  join (not p r) q s σ h k = (h.0, join r q (meets p s) σ h.1 k)
