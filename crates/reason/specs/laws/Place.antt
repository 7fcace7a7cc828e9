-- Marks taken away one at a time: another way to say that what is picked is minimal. Assumes nothing.
use Rattle.std.specs.Prelude.{◌≡◌, ◌⊎◌, Bool, true, false, cond, ℕ, zero, suc, ◌+◌, ◌≤◌, ◌<◌, eqb, length, get_or}
use Rattle.std.proofs.Math.Path.{refl}
use Rattle.std.proofs.Common.{sym, ap, ◌∙◌, subst, inl, inr, arith, eq-eqb, ne_eqb}
use Rattle.std.proofs.lemmas.Bool.{false≢true}
use mathlib.Core.List.{List, [], ◌∷◌, ◌++◌}
use Rattle.logic.specs.Number.{One}
use Rattle.logic.specs.Number.One.{first, later}
use Rattle.logic.specs.laws.Number.{one-cases, one_none}
use Rattle.reason.specs.own.Grows.{Grows}
use Rattle.reason.specs.Part.{Minimal, Part}
use Rattle.reason.specs.Part.Part.{keep, leave}
use Rattle.reason.specs.own.Picked.{picked_from}
use Rattle.reason.specs.laws.Part.{minimal-by-one, one_right, part-all}
use Rattle.reason.specs.laws.Picked.{picked_first, picked-part, picked_same}

-- x has the place j in the list, whose first element has the place i
pub data Placed {A : Type 0} (x : A) (j : ℕ) : ℕ → List A → Type 0 where
  here : {xs : List A} → Placed x j j (x ∷ xs)
  there : {i : ℕ} {y : A} {xs : List A} → Placed x j (suc i) xs → Placed x j i (y ∷ xs)

-- the marks without the mark j
unfoldable pub off : (ℕ → Bool) → ℕ → ℕ → Bool
off m j i = cond (eqb i j) false (m i)

off_at : (m : ℕ → Bool) (j : ℕ) → off m j j ≡ false
unfolding off
off_at m j = rw (eq-eqb j j refl)

pub off-other : (m : ℕ → Bool) (j i : ℕ) → (i ≡ j → ⊥) → off m j i ≡ m i
unfolding off
off-other m j i h = rw (ne_eqb i j h)

-- a mark that is left is another one
pub off-on : (m : ℕ → Bool) (j i : ℕ) → off m j i ≡ true → (m i ≡ true) × (i ≡ j → ⊥)
unfolding off
off-on m j i e = (go (eqb i j) e, λ q. false≢true (sym (off_at m j) ∙ ap (off m j) (sym q) ∙ e))
  where
    go : (b : Bool) → cond b false (m i) ≡ true → m i ≡ true
    go true f = absurd (false≢true f)
    go false f = f

module _ {A : Type 0} where
  placed-from : {x : A} {j i : ℕ} {xs : List A} → Placed x j i xs → i ≤ j
  placed-from here = omega arith
  placed-from (there p) = omega (arith, placed-from p)

  placed-equal : {x y : A} {j i k : ℕ} {xs : List A} → Placed x j i xs → Placed y j k xs → i ≡ k → x ≡ y
  placed-equal here here e = refl
  placed-equal here (there q) e = absurd (omega (arith, placed-from q))
  placed-equal (there p) here e = absurd (omega (arith, placed-from p))
  placed-equal (there p) (there q) e = placed-equal p q (ap suc e)

  -- a place has one element
  pub placed_same : {x y : A} {j i : ℕ} {xs : List A} → Placed x j i xs → Placed y j i xs → x ≡ y
  placed_same p q = placed-equal p q refl

  -- the element that a list has at a place
  pub placed_at : (xs : List A) (i j k : ℕ) (d : A) → k < length xs → j ≡ i + k → Placed (get_or xs k d) j i xs
  placed_at [] i j k d h e = absurd (omega arith)
  placed_at (x ∷ xs) i j zero d h e = let q : i ≡ j = omega arith in subst (λ (z : ℕ). Placed x j z (x ∷ xs)) (sym q) here
  placed_at (x ∷ xs) i j (suc k) d h e = there (placed_at xs (suc i) j k d (omega arith) (omega arith))

  pub one_at : (xs : List A) (k : ℕ) (d : A) → k < length xs → One (get_or xs k d) xs
  one_at [] k d h = absurd (omega arith)
  one_at (x ∷ xs) zero d h = first
  one_at (x ∷ xs) (suc k) d h = later (one_at xs k d (omega arith))

  pub at_one : {x : A} {xs : List A} (d : A) → One x xs → (k : ℕ) × (k < length xs) × (get_or xs k d ≡ x)
  at_one d first = (0, omega arith, refl)
  at_one d (later o) = let z = at_one d o in (suc z.0, omega (arith, z.1), z.2)

  -- an element that is picked has a place that is marked
  pub picked-place : (m : ℕ → Bool) (i : ℕ) (xs : List A) (x : A) → One x (picked_from m i xs) → (j : ℕ) × Placed x j i xs × (m j ≡ true)
  unfolding picked_from
  picked-place m i [] x o = absurd (one_none o)
  picked-place m i (y ∷ xs) x o = go (m i) refl o (picked-place m (suc i) xs x)
    where
      more : (j : ℕ) × Placed x j (suc i) xs × (m j ≡ true) → (j : ℕ) × Placed x j i (y ∷ xs) × (m j ≡ true)
      more z = (z.0, there z.1, z.2)

      go : (b : Bool) → m i ≡ b → One x (cond b (y ∷ picked_from m (suc i) xs) (picked_from m (suc i) xs)) → (One x (picked_from m (suc i) xs) → (j : ℕ) × Placed x j (suc i) xs × (m j ≡ true))
          → (j : ℕ) × Placed x j i (y ∷ xs) × (m j ≡ true)
      go true e q f = by (one-cases q)
        where
          by : (x ≡ y) ⊎ One x (picked_from m (suc i) xs) → (j : ℕ) × Placed x j i (y ∷ xs) × (m j ≡ true)
          by (inl s) = (i, subst (λ (z : A). Placed x i i (z ∷ xs)) s here, e)
          by (inr r) = more (f r)
      go false e q f = more (f q)

  pub picked-one : {x : A} {j i : ℕ} {xs : List A} (m : ℕ → Bool) → Placed x j i xs → m j ≡ true → One x (picked_from m i xs)
  picked-one {x} {i = i} m (here {xs = xs}) e = rw (picked_first m i x xs true e) first
  picked-one {x} {i = i} m (there {y = y} {xs = xs} p) e = go (m i) refl (picked-one m p e)
    where
      go : (b : Bool) → m i ≡ b → One x (picked_from m (suc i) xs) → One x (picked_from m i (y ∷ xs))
      go true q o = rw (picked_first m i y xs true q) (later o)
      go false q o = rw (picked_first m i y xs false q) o

  -- what is picked, an element at a place apart
  record Out (m : ℕ → Bool) (i : ℕ) (xs rest : List A) : Type 0 where
    place : ℕ
    at : A
    placed : Placed at place i xs
    on : m place ≡ true
    left : (x : A) → One x rest → One x (picked_from (off m place) i xs)

  picked-out : (m : ℕ → Bool) (i : ℕ) (xs before after : List A) (out : A) → picked_from m i xs ≡ before ++ out ∷ after → Out m i xs (before ++ after)
  unfolding picked_from
  picked-out m i [] before after out e = absurd (one_none (subst (λ (zs : List A). One out zs) (sym e) (one_right before first)))
  picked-out m i (y ∷ xs) before after out e = go (m i) refl before e (λ b q. picked-out m (suc i) xs b after out q)
    where
      -- the marks from the next place on are as they were, and so is this one
      skip : (b : Bool) (rest more : List A) → m i ≡ b → ((x : A) → One x more → One x (cond b (y ∷ rest) rest)) → Out m (suc i) xs rest → Out m i (y ∷ xs) more
      skip b rest more q f o = record { place = o.place; at = o.at; placed = there o.placed; on = o.on; left = λ x p. left b q x (f x p) }
        where
          other : off m o.place i ≡ m i
          other = off-other m o.place i (λ r. omega (arith, placed-from o.placed))

          left : (b : Bool) → m i ≡ b → (x : A) → One x (cond b (y ∷ rest) rest) → One x (picked_from (off m o.place) i (y ∷ xs))
          left true q x p = rw (picked_first (off m o.place) i y xs true (other ∙ q)) (by (one-cases p))
            where
              by : (x ≡ y) ⊎ One x rest → One x (y ∷ picked_from (off m o.place) (suc i) xs)
              by (inl s) = subst (λ (z : A). One x (z ∷ picked_from (off m o.place) (suc i) xs)) s first
              by (inr r) = later (o.left x r)
          left false q x p = rw (picked_first (off m o.place) i y xs false (other ∙ q)) (o.left x p)

      go : (b : Bool) → m i ≡ b → (bf : List A) → picked_from m i (y ∷ xs) ≡ bf ++ out ∷ after → ((bf : List A) → picked_from m (suc i) xs ≡ bf ++ out ∷ after → Out m (suc i) xs (bf ++ after)) → Out m i (y ∷ xs) (bf ++ after)
      go false q bf e f = skip false (bf ++ after) (bf ++ after) q (λ x o. o) (f bf (sym (picked_first m i y xs false q) ∙ e))
      go true q [] e f =
          let d : y ∷ picked_from m (suc i) xs ≡ out ∷ after = sym (picked_first m i y xs true q) ∙ e in
          let t : picked_from m (suc i) xs ≡ after = cc in
          record {
            place = i;
            at = y;
            placed = here;
            on = q;
            left = λ x o. rw (picked_first (off m i) i y xs false (off_at m i), picked_same (off m i) m (suc i) xs (λ j h. off-other m i j (λ r. omega arith)), t) o;
          }
      go true q (z ∷ bf) e f =
          let d : y ∷ picked_from m (suc i) xs ≡ z ∷ (bf ++ out ∷ after) = sym (picked_first m i y xs true q) ∙ e in
          let s : y ≡ z = cc in
          let t : picked_from m (suc i) xs ≡ bf ++ out ∷ after = cc in
          skip true (bf ++ after) (z ∷ (bf ++ after)) q (λ x o. subst (λ (w : A). One x (w ∷ (bf ++ after))) (sym s) o) (f bf t)

  picked-fewer : {x : A} {j i : ℕ} {xs : List A} (m : ℕ → Bool) → Placed x j i xs → m j ≡ true → Part (picked_from (off m j) i xs) (picked_from m i xs) × (length (picked_from (off m j) i xs) < length (picked_from m i xs))
  picked-fewer {x} {i = i} m (here {xs = xs}) e =
      rw (picked_first m i x xs true e, picked_first (off m i) i x xs false (off_at m i), picked_same (off m i) m (suc i) xs (λ j h. off-other m i j (λ q. omega arith))) (leave (part-all (picked_from m (suc i) xs)), omega arith)
  picked-fewer {x} {j} {i} m (there {y = y} {xs = xs} p) e = go (m i) refl (picked-fewer m p e)
    where
      Fewer : ℕ → List A → Type 0
      Fewer k ys = Part (picked_from (off m j) k ys) (picked_from m k ys) × (length (picked_from (off m j) k ys) < length (picked_from m k ys))

      other : off m j i ≡ m i
      other = off-other m j i (λ q. omega (arith, placed-from p))

      go : (b : Bool) → m i ≡ b → Fewer (suc i) xs → Fewer i (y ∷ xs)
      go true q f = rw (picked_first m i y xs true q, picked_first (off m j) i y xs true (other ∙ q)) (keep f.0, omega (arith, f.1))
      go false q f = rw (picked_first m i y xs false q, picked_first (off m j) i y xs false (other ∙ q)) f

-- ---- minimal by places

-- with a mark taken away, what is picked is not enough
pub needed-at : {A : Type 0} {Enough : List A → Type 0} {all : List A} {x : A} {j : ℕ} (m : ℕ → Bool) → Minimal Enough all (picked_from m 0 all) → Placed x j 0 all → m j ≡ true → ¬ (Enough (picked_from (off m j) 0 all))
needed-at {all = all} {j = j} m w p e = let f = picked-fewer m p e in w.needed (picked_from (off m j) 0 all) f.0 f.1

-- and if that is so of each mark, it is minimal
pub minimal-by-place : {A : Type 0} {Enough : List A → Type 0} → Grows Enough → (all : List A) (m : ℕ → Bool) → Enough (picked_from m 0 all)
    → ((x : A) (j : ℕ) → Placed x j 0 all → m j ≡ true → ¬ (Enough (picked_from (off m j) 0 all))) → Minimal Enough all (picked_from m 0 all)
minimal-by-place {A} {Enough} grows all m enough one = minimal-by-one grows (picked-part m 0 all) enough each
  where
    each : (before after : List A) (out : A) → picked_from m 0 all ≡ before ++ out ∷ after → ¬ (Enough (before ++ after))
    each before after out e q =
        let z = picked-out m 0 all before after out e in
        one z.at z.place z.placed z.on (grows (before ++ after) (picked_from (off m z.place) 0 all) z.left q)

-- what is minimal for one thing is minimal for another that means the same of the parts of the list
pub minimal_iff : {A : Type 0} {E F : List A → Type 0} {all some : List A} → ((xs : List A) → Part xs all → E xs → F xs) → ((xs : List A) → F xs → E xs) → Minimal E all some → Minimal F all some
minimal_iff {some = some} f g w = record { part = w.part; enough = f some w.part w.enough; needed = λ fewer p h e. w.needed fewer p h (g fewer e) }
