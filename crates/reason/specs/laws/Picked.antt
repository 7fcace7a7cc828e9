-- Laws of marks: what they pick, and the loop that sets them one after the other. Assumes nothing.
use Rattle.std.specs.Prelude.{◌≡◌, ◌⊎◌, Bool, cond, get_or, replicate}
use Rattle.std.proofs.Math.Path.{refl, ap}
use Rattle.std.proofs.Common.{sym, ◌∙◌, subst, inl, inr, ⊎_elim, length-append}
use Rattle.std.proofs.Math.Bool.{true, false}
use mathlib.Core.List.{List, [], ◌∷◌, ◌++◌, append-nil}
use Prim.Native.Nat.{ℕ, suc, ◌+◌, ◌/◌, ◌%◌, ◌≤◌, ◌<◌}
use Rattle.std.proofs.Math.Decide.{dec_lt}
use native.Mathlib.Omega.{arith}
use Rattle.std.proofs.Math.ListN.{length, get_or-eq_default}
use Rattle.std.proofs.lemmas.List.{length-replicate, get_or-replicate}
use Rattle.logic.specs.Number.{One}
use Rattle.row.specs.own.Pick.{Marked}
use Rattle.row.specs.own.Row.{row_hasb}
use Rattle.row.specs.own.Bit.{hasb}
use Rattle.row.specs.laws.Bit.{has-hasb, hasb-has, hasb-not, not-hasb, zero-none}
use Rattle.reason.specs.own.Grows.{Grows}
use Rattle.reason.specs.Part.{Minimal, Part}
use Rattle.reason.specs.Part.Part.{none, keep, leave}
use Rattle.reason.specs.own.Picked.{Sets, Until, picked_from}
use Rattle.reason.specs.laws.Narrow.{Narrowed, narrow_start, narrow_step, narrow-stop}
use Rattle.reason.specs.laws.Part.{one-joined, one_left, one_right}

module _ {A : Type 0} where
  pub picked-part : (m : ℕ → Bool) (i : ℕ) (xs : List A) → Part (picked_from m i xs) xs
  unfolding picked_from
  picked-part m i [] = none
  picked-part m i (x ∷ xs) = go (m i) (picked-part m (suc i) xs)
    where
      go : (b : Bool) → Part (picked_from m (suc i) xs) xs → Part (cond b (x ∷ picked_from m (suc i) xs) (picked_from m (suc i) xs)) (x ∷ xs)
      go true p = keep p
      go false p = leave p

  pub picked-append : (m : ℕ → Bool) (i : ℕ) (xs ys : List A) → picked_from m i (xs ++ ys) ≡ picked_from m i xs ++ picked_from m (i + length xs) ys
  unfolding picked_from
  picked-append m i [] ys = let e : i ≡ i + 0 = omega arith in ap (λ (j : ℕ). picked_from m j ys) e
  picked-append m i (x ∷ xs) ys = go (m i) (picked-append m (suc i) xs ys)
    where
      at : suc i + length xs ≡ i + suc (length xs)
      at = omega arith

      go : (b : Bool) → picked_from m (suc i) (xs ++ ys) ≡ picked_from m (suc i) xs ++ picked_from m (suc i + length xs) ys
          → cond b (x ∷ picked_from m (suc i) (xs ++ ys)) (picked_from m (suc i) (xs ++ ys)) ≡ cond b (x ∷ picked_from m (suc i) xs) (picked_from m (suc i) xs) ++ picked_from m (i + suc (length xs)) ys
      go true e = ap (◌∷◌ x) (e ∙ ap (λ (j : ℕ). picked_from m (suc i) xs ++ picked_from m j ys) at)
      go false e = e ∙ ap (λ (j : ℕ). picked_from m (suc i) xs ++ picked_from m j ys) at

  pub picked_same : (m m' : ℕ → Bool) (i : ℕ) (xs : List A) → ((j : ℕ) → i ≤ j → m j ≡ m' j) → picked_from m i xs ≡ picked_from m' i xs
  unfolding picked_from
  picked_same m m' i [] f = refl
  picked_same m m' i (x ∷ xs) f = rw (f i (omega arith), picked_same m m' (suc i) xs (λ j h. f j (omega arith)))

  pub picked_none : (m : ℕ → Bool) (i : ℕ) (xs : List A) → ((j : ℕ) → i ≤ j → j < i + length xs → m j ≡ false) → picked_from m i xs ≡ []
  unfolding picked_from
  picked_none m i [] f = refl
  picked_none m i (x ∷ xs) f = rw (f i (omega arith) (omega arith)) (picked_none m (suc i) xs (λ j h g. f j (omega arith) (omega arith)))

  -- the first element alone
  pub picked_first : (m : ℕ → Bool) (i : ℕ) (x : A) (xs : List A) (b : Bool) → m i ≡ b → picked_from m i (x ∷ xs) ≡ cond b (x ∷ picked_from m (suc i) xs) (picked_from m (suc i) xs)
  unfolding picked_from
  picked_first m i x xs b e = rw e

  -- one element more
  pub picked_more : (m : ℕ → Bool) (xs : List A) (y : A) (b : Bool) → m (length xs) ≡ b → picked_from m 0 (xs ++ y ∷ []) ≡ picked_from m 0 xs ++ cond b (y ∷ []) []
  unfolding picked_from
  picked_more m xs y b e =
      picked-append m 0 xs (y ∷ []) ∙ ap (λ (zs : List A). picked_from m 0 xs ++ zs) (picked_first m (0 + length xs) y [] b (let q : 0 + length xs ≡ length xs = omega arith in ap m q ∙ e))

  -- one mark more, below all others, puts its element first
  picked-set : (m m' : ℕ → Bool) (n : ℕ) (xs ys : List A) (y : A) → n ≡ length xs → Sets m n m' → ((j : ℕ) → j ≤ n → m j ≡ false) → picked_from m' 0 (xs ++ y ∷ ys) ≡ y ∷ picked_from m 0 (xs ++ y ∷ ys)
  picked-set m m' n xs ys y e s clear =
      let new : picked_from m' 0 xs ≡ [] = picked_none m' 0 xs (λ j h g. s.1 j (λ q. omega arith) ∙ clear j (omega arith)) in
      let old : picked_from m 0 xs ≡ [] = picked_none m 0 xs (λ j h g. clear j (omega arith)) in
      let at : 0 + length xs ≡ n = omega arith in
      let rest : picked_from m' (suc n) ys ≡ picked_from m (suc n) ys = picked_same m' m (suc n) ys (λ j h. s.1 j (λ q. omega arith)) in
      let a : picked_from m' 0 (xs ++ y ∷ ys) ≡ y ∷ picked_from m' (suc n) ys = picked-append m' 0 xs (y ∷ ys) ∙ rw (new, at) (picked_first m' n y ys true s.0) in
      let b : picked_from m 0 (xs ++ y ∷ ys) ≡ picked_from m (suc n) ys = picked-append m 0 xs (y ∷ ys) ∙ rw (old, at) (picked_first m n y ys false (clear n (omega arith))) in
      a ∙ ap (◌∷◌ y) (rest ∙ sym b)

  -- ---- two beginnings of one list

  cons_head : {x y : A} {xs ys : List A} → x ∷ xs ≡ y ∷ ys → x ≡ y
  cons_head e = cc

  cons_tail : {x y : A} {xs ys : List A} → x ∷ xs ≡ y ∷ ys → xs ≡ ys
  cons_tail e = cc

  -- the one that ends before an element is the longer one, or the element is in the other
  beginnings : (f front : List A) (l : A) (g back : List A) → f ++ l ∷ g ≡ front ++ back → ((more : List A) × (front ≡ f ++ l ∷ more)) ⊎ ((more : List A) × (f ≡ front ++ more))
  beginnings f [] l g back e = inr (f, refl)
  beginnings [] (x ∷ front) l g back e = inl (front, ap (λ (z : A). z ∷ front) (sym (cons_head e)))
  beginnings (y ∷ f) (x ∷ front) l g back e = go (beginnings f front l g back (cons_tail e))
    where
      go : ((more : List A) × (front ≡ f ++ l ∷ more)) ⊎ ((more : List A) × (f ≡ front ++ more)) → ((more : List A) × (x ∷ front ≡ y ∷ (f ++ l ∷ more))) ⊎ ((more : List A) × (y ∷ f ≡ x ∷ (front ++ more)))
      go (inl z) = inl (z.0, ap (λ (w : A). w ∷ front) (sym (cons_head e)) ∙ ap (◌∷◌ y) z.1)
      go (inr z) = inr (z.0, ap (λ (w : A). w ∷ f) (cons_head e) ∙ ap (◌∷◌ x) z.1)

-- ---- the loop that sets the marks

-- No mark lies below `end`, and those that are picked are narrowed to, with all in front of them.
pub record Kept {A : Type 0} (Enough : List A → Type 0) (all : List A) (m : ℕ → Bool) (end : ℕ) : Type 0 where
  pub front : List A
  pub back : List A
  pub is : all ≡ front ++ back
  pub low : length front ≤ end
  pub clear : (j : ℕ) → j < length front → m j ≡ false
  pub narrowed : Narrowed Enough front (picked_from m 0 all)

module _ {A : Type 0} {Enough : List A → Type 0} (grows : Grows Enough) where
  pub kept-start : {all : List A} {m : ℕ → Bool} {end : ℕ} → ((j : ℕ) → m j ≡ false) → Enough all → length all ≤ end → Kept Enough all m end
  kept-start {all} {m} {end} clear enough h =
      record {
        front = all;
        back = [];
        is = sym (append-nil all);
        low = h;
        clear = λ j g. clear j;
        narrowed = subst (λ (z : List A). Narrowed Enough all z) (sym (picked_none m 0 all (λ j g q. clear j))) (narrow_start grows enough);
      }

  -- the place of the next line to be marked lies in front, before all that are marked
  module _ {all : List A} {m : ℕ → Bool} {end n : ℕ} (w : Kept Enough all m end) (u : Until Enough all (picked_from m 0 all) n) where
    inside : (more : List A) × (w.front ≡ u.before ++ u.at ∷ more)
    inside = go (beginnings u.before w.front u.at u.after w.back (sym u.is ∙ w.is))
      where
        go : ((more : List A) × (w.front ≡ u.before ++ u.at ∷ more)) ⊎ ((more : List A) × (u.before ≡ w.front ++ more)) → (more : List A) × (w.front ≡ u.before ++ u.at ∷ more)
        go (inl z) = z
        go (inr z) =
            absurd
            (u.without
            (grows (w.front ++ picked_from m 0 all) (u.before ++ picked_from m 0 all)
            (λ x o. subst (λ (b : List A). One x (b ++ picked_from m 0 all)) (sym z.1) (one-joined w.front (picked_from m 0 all) (λ p. one_left (picked_from m 0 all) (one_left z.0 p)) (λ p. one_right (w.front ++ z.0) p) o))
            w.narrowed.enough))

    lengths : length w.front ≡ length u.before + suc (length inside.0)
    lengths = ap length inside.1 ∙ length-append u.before (u.at ∷ inside.0)

    pub kept_less : n < end
    kept_less = omega (arith, lengths, u.place, w.low)

    pub kept_step : (m' : ℕ → Bool) → Sets m n m' → Kept Enough all m' n
    kept_step m' s =
        record {
          front = u.before;
          back = u.at ∷ u.after;
          is = u.is;
          low = omega (arith, u.place);
          clear = λ j h. s.1 j (λ q. omega (arith, u.place)) ∙ w.clear j (omega (arith, lengths));
          narrowed = subst (λ (z : List A). Narrowed Enough u.before z) (sym new) (narrow_step grows w.narrowed u.before inside.0 u.at inside.1 u.without u.with);
        }
      where
        new : picked_from m' 0 all ≡ u.at ∷ picked_from m 0 all
        new =
            subst (λ (z : List A). picked_from m' 0 z ≡ u.at ∷ picked_from m 0 z) (sym u.is)
            (picked-set m m' n u.before u.after u.at u.place s (λ j h. w.clear j (omega (arith, lengths, u.place))))

  -- what is picked is enough: it is minimal
  pub kept-stop : {all : List A} {m : ℕ → Bool} {end : ℕ} → Kept Enough all m end → Enough (picked_from m 0 all) → Minimal Enough all (picked_from m 0 all)
  kept-stop {all} {m} w e = narrow-stop grows w.narrowed (picked-part m 0 all) e

-- ---- a bit set is a mark set

pub marked-sets : {n : ℕ} {s t : List ℕ} → Marked true n s t → Sets (row_hasb s) n (row_hasb t)
marked-sets {n} {s} {t} k = (has-hasb (k.gets refl), λ j q. go j q (row_hasb s j) refl)
  where
    go : (j : ℕ) → (j ≡ n → ⊥) → (b : Bool) → row_hasb s j ≡ b → row_hasb t j ≡ row_hasb s j
    go j q true e = has-hasb (k.keeps j (hasb-has _ _ e)) ∙ sym e
    go j q false e = not-hasb _ _ (λ h. ⊎_elim (λ z. hasb-not _ _ e z) (λ z. q z.1) (k.only j h)) ∙ sym e

-- words of zeros have no mark
pub clear-zeros : (k j : ℕ) → row_hasb (replicate k 0) j ≡ false
clear-zeros k j = ap (λ (w : ℕ). hasb w (j % 64)) (word (dec_lt (j / 64) k)) ∙ not-hasb 0 (j % 64) zero-none
  where
    word : Dec (j / 64 < k) → ◌≡◌ {A = ℕ} (get_or (replicate k 0) (j / 64) 0) 0
    word (yes l) = get_or-replicate k (j / 64) 0 0 l
    word (no l) = get_or-eq_default (replicate k 0) 0 {n = j / 64} (omega (arith, length-replicate {A = ℕ} k 0))
