-- A statement from which steps lead to a fact, minimal steps above and minimal steps of "same": together they are minimal. Assumes nothing.
use Rattle.std.specs.Prelude.{◌≡◌, refl, ◌⊎◌, Bool, true, Option, Some, None, IsSomeAnd, List, ℕ}
use Rattle.std.proofs.Common.{sym, ◌∙◌, subst, inl, inr}
use Rattle.store.specs.Cell.{Cell}
use Rattle.store.specs.Cell.Cell.{Same, Under, RoleUnder, In, Link}
use Rattle.reason.specs.declared.Fact.{Fact}
use Rattle.reason.specs.declared.Fact.TheVariants as fact
use Rattle.reason.specs.declared.Kind.{Kind}
use Rattle.reason.specs.declared.Kind.TheVariants as kind
use Rattle.reason.specs.declared.Route.{Route}
use Rattle.reason.specs.own.Aim.{Joins}
use Rattle.reason.specs.own.Code.{Coded, cell_at}
use Rattle.reason.specs.own.Code.Coded.{coded}
use Rattle.reason.specs.own.Fact.{Along, Found, Meets, fact_of, kind_above, straight, turned}
use Rattle.reason.specs.own.Fact.Meets.{by_straight, by_turned}
use Rattle.reason.specs.own.Grows.{Grows}
use Rattle.reason.specs.Part.{Minimal}
use Rattle.reason.specs.own.Picked.{picked_from}
use Rattle.reason.specs.own.Walk.{CellStep}
use Rattle.reason.specs.own.Walk.CellStep.{same, same_back, under, role, role-turned}
use Rattle.reason.specs.laws.Part.{part-one}
use Rattle.reason.specs.laws.Picked.{picked-part}
use Rattle.reason.specs.laws.Place.{Placed, minimal-by-place, needed-at, off, off-on, off-other, picked-one, picked-place, placed_same}
use Rattle.reason.specs.laws.Walks.{coded-more, walk-by}

-- ---- the kind of a cell's steps

-- the kind of the steps that a cell has, if it has one
kind_of : Cell → Kind
kind_of (Same a b) = kind.Same
kind_of (Under a b) = kind.Under
kind_of (RoleUnder r u s) = kind.Role
kind_of (In a b) = kind.Same
kind_of (Link r a b) = kind.Same

step-kind : {k : Kind} {c : Cell} {x y : ℕ} → CellStep k c x y → k ≡ kind_of c
unfolding kind_of
step-kind same = refl
step-kind same_back = refl
step-kind under = refl
step-kind role = refl
step-kind role-turned = refl

-- a cell that has a step states no fact
step-none : {k : Kind} {c : Cell} {x y : ℕ} → CellStep k c x y → fact_of c ≡ None
step-none same = refl
step-none same_back = refl
step-none under = refl
step-none role = refl
step-none role-turned = refl

above_other : (g : Fact) → kind_above g ≡ kind.Same → ⊥
above_other (fact.Member a b) e = cc
above_other (fact.Link r a b) e = cc

-- ---- steps lead from fact to fact, with other cells given

-- what one list states by steps of a kind, another states too
abbrev pub StepsIn : Kind → List ℕ → List ℕ → Type 0
StepsIn k xs ys = (c : Cell) (u v : ℕ) → Coded xs c → CellStep k c u v → Coded ys c

-- only statements that have a step of the kind matter
abbrev pub Stepwise : Kind → (List ℕ → Type 0) → Type 0
Stepwise k Enough = (xs ys : List ℕ) → StepsIn k xs ys → Enough xs → Enough ys

module _ {S S' U U' : List ℕ} where
  along-by : {k : Kind} (r : Option Route) → StepsIn kind.Same S S' → StepsIn k U U' → IsSomeAnd r (Along (Coded S) (Coded U) k) → IsSomeAnd r (Along (Coded S') (Coded U') k)
  along-by None f g l = l
  along-by (Some r) f g l = record { above = walk-by g l.above; first = walk-by f l.first; second = walk-by f l.second }

  meets-by : (f : Option Fact) (g : Fact) → StepsIn kind.Same S S' → StepsIn (kind_above g) U U' → Meets (Coded S) (Coded U) f g → Meets (Coded S') (Coded U') f g
  meets-by f g s u (by_straight l) = by_straight (along-by (straight f g) s u l)
  meets-by f g s u (by_turned l) = by_turned (along-by (turned f g) s u l)

found-grows : (g : Fact) → Grows (λ ls. Found (Coded ls) g)
found-grows g xs ys f w = record { cell = w.cell; has = coded-more f w.cell w.has; meets = meets-by (fact_of w.cell) g (λ c u v h s. coded-more f c h) (λ c u v h s. coded-more f c h) w.meets }

-- steps lead from nothing but a fact
meets-none : {S U : Cell → Type 0} (f : Option Fact) (g : Fact) → Meets S U f g → f ≡ None → ⊥
meets-none None g (by_straight l) e = l
meets-none None g (by_turned l) e = l
meets-none (Some f) g l e = cc

-- ---- what a search of one kind marks

-- it has a step of that kind
marked-steps : {k : Kind} {Enough : List ℕ → Type 0} {codes : List ℕ} {x j : ℕ} (m : ℕ → Bool) → Stepwise k Enough → Minimal Enough codes (picked_from m 0 codes) → Placed x j 0 codes → m j ≡ true
    → ((u v : ℕ) → ¬ (CellStep k (cell_at x) u v)) → ⊥
marked-steps {k} {Enough} {codes} {x} {j} m by w p e none = needed-at m w p e (by (picked_from m 0 codes) (picked_from (off m j) 0 codes) move w.enough)
  where
    move : StepsIn k (picked_from m 0 codes) (picked_from (off m j) 0 codes)
    move c u v (coded {k = y} o) s =
        let z = picked-place m 0 codes y o in
        let other : z.0 ≡ j → ⊥ = λ q. none u v (subst (λ (t : ℕ). CellStep k (cell_at t) u v) (placed_same (subst (λ (t : ℕ). Placed y t 0 codes) q z.1) p) s) in
        coded (picked-one (off m j) z.1 (off-other m j z.0 other ∙ z.2))

-- ---- the three together

module _
    {g : Fact} {codes : List ℕ} {x n : ℕ} (up along m : ℕ → Bool)
    (placed : Placed x n 0 codes)
    (least-up : Minimal (λ ls. Meets (Coded codes) (Coded ls) (fact_of (cell_at x)) g) codes (picked_from up 0 codes))
    (least-along : Minimal (λ ls. Meets (Coded ls) (Coded (picked_from up 0 codes)) (fact_of (cell_at x)) g) codes (picked_from along 0 codes))
    (joins : Joins up along n m) where
  up-steps : Stepwise (kind_above g) (λ ls. Meets (Coded codes) (Coded ls) (fact_of (cell_at x)) g)
  up-steps xs ys f = meets-by (fact_of (cell_at x)) g (λ c u v h s. h) f

  along-steps : Stepwise kind.Same (λ ls. Meets (Coded ls) (Coded (picked_from up 0 codes)) (fact_of (cell_at x)) g)
  along-steps xs ys f = meets-by (fact_of (cell_at x)) g f (λ c u v h s. h)

  -- the statement at n has no step
  first-fact : fact_of (cell_at x) ≡ None → ⊥
  first-fact e = meets-none (fact_of (cell_at x)) g least-up.enough e

  -- a marked statement that has a step is marked by the search of its kind
  step-up : (y i u v : ℕ) → Placed y i 0 codes → m i ≡ true → CellStep (kind_above g) (cell_at y) u v → up i ≡ true
  step-up y i u v p e s = by (joins.only i e)
    where
      by : (up i ≡ true) ⊎ ((along i ≡ true) ⊎ (i ≡ n)) → up i ≡ true
      by (inl q) = q
      by (inr (inl q)) = absurd (marked-steps along along-steps least-along p q (λ a b t. above_other g (step-kind s ∙ sym (step-kind t))))
      by (inr (inr q)) = absurd (first-fact (subst (λ (t : ℕ). fact_of (cell_at t) ≡ None) (placed_same (subst (λ (t : ℕ). Placed y t 0 codes) q p) placed) (step-none s)))

  step-along : (y i u v : ℕ) → Placed y i 0 codes → m i ≡ true → CellStep kind.Same (cell_at y) u v → along i ≡ true
  step-along y i u v p e s = by (joins.only i e)
    where
      by : (up i ≡ true) ⊎ ((along i ≡ true) ⊎ (i ≡ n)) → along i ≡ true
      by (inl q) = absurd (marked-steps up up-steps least-up p q (λ a b t. above_other g (step-kind t ∙ sym (step-kind s))))
      by (inr (inl q)) = q
      by (inr (inr q)) = absurd (first-fact (subst (λ (t : ℕ). fact_of (cell_at t) ≡ None) (placed_same (subst (λ (t : ℕ). Placed y t 0 codes) q p) placed) (step-none s)))

  -- a marked statement that states a fact is the one at n
  fact-first : (y i : ℕ) → Placed y i 0 codes → m i ≡ true → (fact_of (cell_at y) ≡ None → ⊥) → i ≡ n
  fact-first y i p e h = by (joins.only i e)
    where
      by : (up i ≡ true) ⊎ ((along i ≡ true) ⊎ (i ≡ n)) → i ≡ n
      by (inl q) = absurd (marked-steps up up-steps least-up p q (λ u v s. h (step-none s)))
      by (inr (inl q)) = absurd (marked-steps along along-steps least-along p q (λ u v s. h (step-none s)))
      by (inr (inr q)) = q

  union-enough : Found (Coded (picked_from m 0 codes)) g
  union-enough = record {
    cell = cell_at x;
    has = coded (picked-one m placed joins.this);
    meets = meets-by (fact_of (cell_at x)) g
        (λ c u v h s. coded-more (λ y o. let z = picked-place along 0 codes y o in picked-one m z.1 (joins.right z.0 z.2)) c h)
        (λ c u v h s. coded-more (λ y o. let z = picked-place up 0 codes y o in picked-one m z.1 (joins.left z.0 z.2)) c h)
        least-along.enough;
  }

  -- with the mark j taken away
  module _ (y j : ℕ) (p : Placed y j 0 codes) (e : m j ≡ true) where
    less-up : StepsIn (kind_above g) (picked_from (off m j) 0 codes) (picked_from (off up j) 0 codes)
    less-up c u v (coded {k = t} o) s =
        let z = picked-place (off m j) 0 codes t o in
        let q = off-on m j z.0 z.2 in
        coded (picked-one (off up j) z.1 (off-other up j z.0 q.1 ∙ step-up t z.0 u v z.1 q.0 s))

    less-along : StepsIn kind.Same (picked_from (off m j) 0 codes) (picked_from (off along j) 0 codes)
    less-along c u v (coded {k = t} o) s =
        let z = picked-place (off m j) 0 codes t o in
        let q = off-on m j z.0 z.2 in
        coded (picked-one (off along j) z.1 (off-other along j z.0 q.1 ∙ step-along t z.0 u v z.1 q.0 s))

    keeps-up : StepsIn (kind_above g) (picked_from (off m j) 0 codes) (picked_from up 0 codes)
    keeps-up c u v (coded {k = t} o) s =
        let z = picked-place (off m j) 0 codes t o in
        coded (picked-one up z.1 (step-up t z.0 u v z.1 (off-on m j z.0 z.2).0 s))

    in_all : StepsIn kind.Same (picked_from (off m j) 0 codes) codes
    in_all c u v h s = coded-more (λ t o. part-one (picked-part (off m j) 0 codes) o) c h

    union-needed : ¬ (Found (Coded (picked_from (off m j) 0 codes)) g)
    union-needed w = start w.cell w.has w.meets
      where
        by : (j ≡ n → ⊥) → Meets (Coded (picked_from (off m j) 0 codes)) (Coded (picked_from (off m j) 0 codes)) (fact_of (cell_at x)) g → (up j ≡ true) ⊎ ((along j ≡ true) ⊎ (j ≡ n)) → ⊥
        by h w (inl q) = needed-at up least-up p q (meets-by (fact_of (cell_at x)) g in_all less-up w)
        by h w (inr (inl q)) = needed-at along least-along p q (meets-by (fact_of (cell_at x)) g less-along keeps-up w)
        by h w (inr (inr q)) = h q

        start : (c : Cell) → Coded (picked_from (off m j) 0 codes) c → Meets (Coded (picked_from (off m j) 0 codes)) (Coded (picked_from (off m j) 0 codes)) (fact_of c) g → ⊥
        start c (coded {k = t} o) w =
            let z = picked-place (off m j) 0 codes t o in
            let q = off-on m j z.0 z.2 in
            let i : z.0 ≡ n = fact-first t z.0 z.1 q.0 (λ s. meets-none (fact_of (cell_at t)) g w s) in
            let s : t ≡ x = placed_same (subst (λ (a : ℕ). Placed t a 0 codes) i z.1) placed in
            by (λ r. q.1 (i ∙ sym r)) (subst (λ (a : ℕ). Meets (Coded (picked_from (off m j) 0 codes)) (Coded (picked_from (off m j) 0 codes)) (fact_of (cell_at a)) g) s w) (joins.only j e)

  pub union-minimal : Minimal (λ ls. Found (Coded ls) g) codes (picked_from m 0 codes)
  union-minimal = minimal-by-place (found-grows g) codes m union-enough union-needed
