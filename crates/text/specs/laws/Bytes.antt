-- Laws of tests over bytes, of comparing and of looking up. Assumes nothing.
use Rattle.std.specs.Prelude.{◌≡◌, refl, Bool, true, false, cond, ◌&&◌, List, [], ◌∷◌, map, ℕ, zero, suc, ◌+◌, ◌-◌, ◌<◌, ◌≤◌, eqb, leb, length, get_or, take, drop}
use Rattle.std.proofs.Common.{sym, ◌∙◌, ap, true≢false, add-one, arith, eq-eqb, leb-true, ne_eqb, drop_of_length-le, length-drop, take_all}
use Rattle.std.proofs.Math.Decide.{ℕ_discrete}
use Rattle.std.proofs.Math.Seq.{drop-cons, take-nil}
use Rattle.std.specs.List.{list_all}
use Rattle.text.specs.Bytes.{between, every, same, place}
use Rattle.text.specs.own.Split.{part_of}
use Rattle.text.specs.laws.Choice.{cond_both, cond-true}

-- the bounds of what is between two numbers
pub between-bounds : (a b c : ℕ) → between a b c ≡ true → (a ≤ b) × (b ≤ c)
between-bounds a b c e = let p = cond-true (leb a b) (leb b c) e in (leb-true a b p.0, leb-true b c p.1)

-- ---- a test of every byte

module _ (p : ℕ → Bool) (s : List ℕ) where
  pub every-end : (i : ℕ) → length s ≤ i → every p (drop i s) ≡ true
  unfolding every
  every-end i h = rw (drop_of_length-le s h)

  module _ (i : ℕ) (h : i < length s) where
    pub every-go : p (get_or s i 0) ≡ true → every p (drop i s) ≡ every p (drop (i + 1) s)
    unfolding every
    every-go e = rw (add-one, drop-cons s i 0, every, e)

    pub every-stop : p (get_or s i 0) ≡ false → every p (drop i s) ≡ false
    unfolding every
    every-stop e = rw (drop-cons s i 0, every, e)

-- what every number of a list passes, and 0, the one at a place passes
pub every-at : (p : ℕ → Bool) (s : List ℕ) (i : ℕ) → p 0 ≡ true → every p s ≡ true → p (get_or s i 0) ≡ true
unfolding every
every-at p [] i z e = z
every-at p (b ∷ s) zero z e = (cond-true (p b) (every p s) e).0
every-at p (b ∷ s) (suc i) z e = every-at p s i z (cond-true (p b) (every p s) e).1

-- the same as std's word
pub every_all : (p : ℕ → Bool) (s : List ℕ) → every p s ≡ list_all p s
unfolding every
every_all p [] = refl
every_all p (b ∷ s) = rw (every_all p s) (both (p b) (list_all p s))
  where
    both : (x y : Bool) → cond x y false ≡ (x && y)
    both true y = refl
    both false y = refl

-- ---- comparing

pub same_length : (a b : List ℕ) → (length a ≡ length b → ⊥) → same a b ≡ false
unfolding same
same_length [] [] h = absurd (h refl)
same_length [] (b ∷ t) h = refl
same_length (a ∷ s) [] h = refl
same_length (a ∷ s) (b ∷ t) h = cond_both (λ (x : Bool). x ≡ false) (eqb a b) (same_length s t (λ q. h (ap suc q))) refl

-- a byte that differs
pub same-off : (a b : List ℕ) (i : ℕ) → i < length a → i < length b → (get_or a i 0 ≡ get_or b i 0 → ⊥) → same a b ≡ false
unfolding same
same-off [] b i h g e = absurd (omega arith)
same-off (a ∷ s) [] i h g e = absurd (omega arith)
same-off (a ∷ s) (b ∷ t) zero h g e = rw (ne_eqb _ _ e)
same-off (a ∷ s) (b ∷ t) (suc i) h g e = cond_both (λ (x : Bool). x ≡ false) (eqb a b) (same-off s t i (omega arith) (omega arith) e) refl

-- no byte differs
pub same-all : (a b : List ℕ) → length a ≡ length b → ((i : ℕ) → i < length a → get_or a i 0 ≡ get_or b i 0) → same a b ≡ true
unfolding same
same-all [] [] l f = refl
same-all [] (b ∷ t) l f = absurd (omega arith)
same-all (a ∷ s) [] l f = absurd (omega arith)
same-all (a ∷ s) (b ∷ t) l f = rw (eq-eqb _ _ (f 0 (omega arith))) (same-all s t (omega arith) (λ i h. f (suc i) (omega arith)))

-- what is told to be the same is
pub same_true : (a b : List ℕ) → same a b ≡ true → a ≡ b
unfolding same
same_true [] [] e = refl
same_true [] (b ∷ t) e = absurd (true≢false (sym e))
same_true (a ∷ s) [] e = absurd (true≢false (sym e))
same_true (a ∷ s) (b ∷ t) e = go (ℕ_discrete a b) (same_true s t)
  where
    go : Dec (a ≡ b) → (same s t ≡ true → s ≡ t) → a ∷ s ≡ b ∷ t
    go (yes q) rest = let z = rw (eq-eqb _ _ q) at e in rw (q, rest z)
    go (no q) rest = absurd (true≢false (sym (rw (ne_eqb _ _ q) at e)))

-- ---- parts

module _ (s : List ℕ) (a l : ℕ) where
  pub part-short : length s - a ≤ l → take (length s - a) (drop a s) ≡ part_of s a l
  part-short h =
      take_all (length s - a) (drop a s) (omega (arith, length-drop a s))
      ∙ sym (take_all l (drop a s) (omega (arith, length-drop a s)))

  pub part_out : length s ≤ a → [] ≡ part_of s a l
  part_out h = sym (rw (drop_of_length-le s h) (take-nil l))

-- ---- the place of a word

pub place_here : (w x : List ℕ) (xs : List (List ℕ)) → same w x ≡ true → place w (x ∷ xs) ≡ 0
unfolding place
place_here w x xs e = rw e

pub place-on : (w x : List ℕ) (xs : List (List ℕ)) → same w x ≡ false → place w (x ∷ xs) ≡ suc (place w xs)
unfolding place
place-on w x xs e = rw e

pub place_none : (w : List ℕ) → place w [] ≡ 0
unfolding place
place_none w = refl

-- in a table, from a place of it on
module _ (w : List ℕ) (f : ℕ → List ℕ) (l : List ℕ) (i : ℕ) where
  pub table-out : length l ≤ i → place w (map f (drop i l)) ≡ 0
  unfolding place
  table-out h = rw (drop_of_length-le l h)

  module _ (h : i < length l) where
    pub table_here : same w (f (get_or l i 0)) ≡ true → place w (map f (drop i l)) ≡ 0
    unfolding place
    table_here e = rw (drop-cons l i 0, place, e)

    pub table_on : same w (f (get_or l i 0)) ≡ false → place w (map f (drop i l)) ≡ suc (place w (map f (drop (i + 1) l)))
    unfolding place
    table_on e = rw (drop-cons l i 0, place, e, add-one)
