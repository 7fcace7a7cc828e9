-- Laws of the cut, from a place of the list on. Assumes nothing.
use Rattle.std.specs.Prelude.{◌≡◌, Bool, eqb, length, get_or}
use Rattle.std.proofs.Math.Path.{refl}
use Rattle.std.proofs.Common.{sym, ap, ◌∙◌, add-one, drop_of_length-le}
use Rattle.std.proofs.Math.Bool.{true, false, cond}
use mathlib.Core.List.{List, [], ◌∷◌}
use Prim.Native.Nat.{ℕ, zero, suc, ◌+◌, ◌-◌, ◌<◌, ◌≤◌, zero-le, suc-le-suc}
use native.Mathlib.Omega.{arith}
use borrow.Author.Tests.{lt-ltb, ltb-true, eq-eqb, ne_eqb, le-leb, lt-leb, leb-true}
use Rattle.std.proofs.Math.Dec.{leb, ltb, leb-suc-suc, leb-zero}
use Rattle.std.proofs.Math.ListN.{take, drop, length-drop}
use Rattle.std.proofs.Math.Seq.{drop-cons, drop-drop}
use Rattle.std.specs.List.{count_by}
use Rattle.std.proofs.lemmas.List.Sums.{sum_by-cons}
use Rattle.std.specs.Prelude.{◌==◌}
use Rattle.text.specs.own.Split.{part_of, upto, parts_from, end_of}
use Rattle.text.specs.Bytes.{place, same}
use Rattle.text.specs.Split.{split, onto}
use Rattle.text.specs.laws.Bytes.{place_here, place-on, place_none}
use Rattle.text.specs.laws.Choice.{cond_both, bool_same}

same_test : (a b c d : ℕ) → (a < b → c ≤ d) → (c ≤ d → a < b) → ltb a b ≡ leb c d
same_test a b c d f g = bool_same (ltb a b) (leb c d) (λ e. le-leb c d (f (ltb-true a b e))) (λ e. lt-ltb a b (g (leb-true c d e)))

module _ (t : ℕ) where
  pub upto_le : (s : List ℕ) → upto t s ≤ length s
  unfolding upto
  upto_le [] = zero-le
  upto_le (b ∷ s) = cond_both (λ (n : ℕ). n ≤ suc (length s)) (eqb b t) zero-le (suc-le-suc (upto_le s))

  -- the first part, and the parts past the byte that ends it
  pub split-cut : (s : List ℕ) → split t s ≡ take (upto t s) s ∷ cond (ltb (upto t s) (length s)) (split t (drop (suc (upto t s)) s)) []
  unfolding split upto
  split-cut [] = refl
  split-cut (b ∷ s) = cut (eqb b t) (split-cut s)
    where
      cut : (e : Bool) → split t s ≡ take (upto t s) s ∷ cond (ltb (upto t s) (length s)) (split t (drop (suc (upto t s)) s)) []
          → cond e ([] ∷ split t s) (onto b (split t s))
          ≡ take (cond e zero (suc (upto t s))) (b ∷ s) ∷ cond (ltb (cond e zero (suc (upto t s))) (suc (length s))) (split t (drop (suc (cond e zero (suc (upto t s)))) (b ∷ s))) []
      cut true h = simp (lt-ltb zero (suc (length s)) (suc-le-suc zero-le))
      cut false h = simp (h, leb-suc-suc)

  module _ (s : List ℕ) (i : ℕ) where
    pub end-out : length s ≤ i → end_of t s i ≡ i
    unfolding end_of upto
    end-out h = rw (drop_of_length-le s h) (omega arith)

    pub end-here : i < length s → get_or s i 0 ≡ t → end_of t s i ≡ i
    unfolding end_of upto
    end-here h e = rw (drop-cons s i 0, upto, eq-eqb _ _ e) (omega arith)

    pub end_on : i < length s → (get_or s i 0 ≡ t → ⊥) → end_of t s i ≡ end_of t s (i + 1)
    unfolding end_of upto
    end_on h e = rw (add-one, drop-cons s i 0, upto, ne_eqb _ _ e) (omega arith)

    pub end-le : i ≤ length s → end_of t s i ≤ length s
    unfolding end_of
    end-le h = omega (arith, upto_le (drop i s), length-drop i s)

    pub end_ge : i ≤ end_of t s i
    unfolding end_of
    end_ge = omega arith

    -- the part at a place, and the parts past the byte that ends it
    pub parts_next : i ≤ length s → parts_from t s i ≡ part_of s i (end_of t s i - i) ∷ parts_from t s (end_of t s i + 1)
    unfolding parts_from end_of
    parts_next h =
        let u : upto t (drop i s) ≡ i + upto t (drop i s) - i = omega arith in
        let k : i + suc (upto t (drop i s)) ≡ i + upto t (drop i s) + 1 = omega arith in
        let d : drop (suc (upto t (drop i s))) (drop i s) ≡ drop (i + upto t (drop i s) + 1) s =
        drop-drop (suc (upto t (drop i s))) i s ∙ rw k in
        let e : ltb (upto t (drop i s)) (length (drop i s)) ≡ leb (i + upto t (drop i s) + 1) (length s) =
        rw length-drop (same_test (upto t (drop i s)) (length s - i) (i + upto t (drop i s) + 1) (length s) (λ g. omega arith) (λ g. omega arith)) in
        rw (le-leb _ _ h) (split-cut (drop i s) ∙ rw (d, e, ← u))

    pub parts_none : length s < i → parts_from t s i ≡ []
    unfolding parts_from
    parts_none h = rw (lt-leb _ _ h)

  pub parts_all : (s : List ℕ) → parts_from t s 0 ≡ split t s
  unfolding parts_from
  parts_all s = rw leb-zero

-- ---- how many parts

module _ (t : ℕ) (s : List ℕ) (i : ℕ) where
  pub count-here : i < length s → get_or s i 0 ≡ t → length (split t (drop i s)) ≡ 1 + length (split t (drop (i + 1) s))
  unfolding split
  count-here h e = rw (add-one, drop-cons s i 0, split, eq-eqb _ _ e) (omega arith)

  onto-length : (b : ℕ) (u : List ℕ) → length (onto b (split t u)) ≡ length (split t u)
  onto-length b u = rw split-cut

  pub count-on : i < length s → (get_or s i 0 ≡ t → ⊥) → length (split t (drop i s)) ≡ length (split t (drop (i + 1) s))
  unfolding split
  count-on h e = rw (add-one, drop-cons s i 0, split, ne_eqb _ _ e) (onto-length (get_or s i 0) (drop (suc i) s))

  pub count-out : length s ≤ i → length (split t (drop i s)) ≡ 1
  unfolding split
  count-out h = rw (drop_of_length-le s h)

-- one more than there are bytes t
pub split_count : (t : ℕ) (s : List ℕ) → length (split t s) ≡ count_by (λ b. b == t) s + 1
unfolding split
split_count t [] = refl
split_count t (b ∷ s) = at (eqb b t) (split_count t s) ∙ ap (λ (n : ℕ). n + 1) (sym (sum_by-cons (λ x. cond (x == t) 1 0) b s))
  where
    at : (e : Bool) → length (split t s) ≡ count_by (λ x. x == t) s + 1 → length (cond e ([] ∷ split t s) (onto b (split t s))) ≡ cond e 1 0 + count_by (λ x. x == t) s + 1
    at true h = omega arith
    at false h = omega (arith, onto-length t s 0 b s)

-- one more than there are bytes, at the most
pub split-few : (t : ℕ) (s : List ℕ) → length (split t s) ≤ length s + 1
unfolding split
split-few t [] = omega arith
split-few t (b ∷ s) = at (eqb b t) (split-few t s)
  where
    at : (e : Bool) → length (split t s) ≤ length s + 1 → length (cond e ([] ∷ split t s) (onto b (split t s))) ≤ suc (length s) + 1
    at true h = omega arith
    at false h = omega (arith, onto-length t s 0 b s)

pub parts-few : (t : ℕ) (s : List ℕ) (i : ℕ) → length (parts_from t s i) ≤ length s + 1
unfolding parts_from
parts-few t s i = cond_both (λ (ps : List (List ℕ)). length ps ≤ length s + 1) (leb i (length s)) (omega (arith, split-few t (drop i s), length-drop i s)) (omega arith)

-- the place of a word among the parts from a place on; p are the bytes of the part there, and e its end
module _ (w : List ℕ) (t : ℕ) (s : List ℕ) (at : ℕ) where
  pub word_out : length s < at → place w (parts_from t s at) ≡ 0
  word_out h = rw (parts_none t s at h) (place_none w)

  module _ (e : ℕ) (p : List ℕ) (h : at ≤ length s) (ends : e ≡ end_of t s at) (is : p ≡ part_of s at (e - at)) where
    cut : parts_from t s at ≡ p ∷ parts_from t s (e + 1)
    cut = parts_next t s at h ∙ rw (is, ends)

    pub word-here : same w p ≡ true → place w (parts_from t s at) ≡ 0
    word-here q = rw cut (place_here w p (parts_from t s (e + 1)) q)

    pub word_on : same w p ≡ false → place w (parts_from t s at) ≡ suc (place w (parts_from t s (e + 1)))
    word_on q = rw cut (place-on w p (parts_from t s (e + 1)) q)
