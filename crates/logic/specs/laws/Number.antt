-- Laws of how many things there are of a kind. Assumes nothing.
use Rattle.std.specs.Prelude.{◌≡◌, refl, ◌⊎◌, List, [], ◌∷◌, ℕ, zero, suc, ◌+◌, ◌-◌, ◌≤◌, ◌<◌, length}
use Rattle.std.proofs.Common.{sym, ap, ap₂, ◌∙◌, subst, inl, inr, ⊎_elim, arith}
use mathlib.Core.HLevel.{¬_prop}
use mathlib.Core.Logic.Dec
use Rattle.std.proofs.Math.Decide.{ℕ_discrete}
use Rattle.logic.specs.Number.{One, Distinct, Number}
use Rattle.logic.specs.Number.One.{first, later}
use Rattle.logic.specs.Number.Distinct.{none, more}

-- ---- lists: one taken out

-- one of a list is its first or one of the rest
pub one-cases : {A : Type 0} {x y : A} {xs : List A} → One y (x ∷ xs) → (y ≡ x) ⊎ One y xs
one-cases first = inl refl
one-cases (later o) = inr o

-- the list without that one
without : {A : Type 0} {x : A} {xs : List A} → One x xs → List A
without (first {xs = xs}) = xs
without (later {y = y} o) = y ∷ without o

without-length : {A : Type 0} {x : A} {xs : List A} (o : One x xs) → length xs ≡ suc (length (without o))
unfolding without
without-length first = refl
without-length (later o) = ap suc (without-length o)

without-keeps : {A : Type 0} {x y : A} {xs : List A} (o : One x xs) → One y xs → (y ≡ x) ⊎ One y (without o)
unfolding without
without-keeps first o = one-cases o
without-keeps (later o) first = inr first
without-keeps (later o) (later q) = ⊎_elim inl (λ r. inr (later r)) (without-keeps o q)

-- the empty list has none
pub one_none : {A : Type 0} {x : A} → ¬ (One x [])
one_none o = omega (arith, without-length o)

-- a list that is not empty has one
pub one_of : {A : Type 0} (xs : List A) → 0 < length xs → (x : A) × One x xs
one_of [] l = absurd (omega arith)
one_of (x ∷ xs) l = (x, first)

-- a list without repeats is no longer than one that has all its members
pub length-le : {A : Type 0} {xs ys : List A} → Distinct xs → ((x : A) → One x xs → One x ys) → length xs ≤ length ys
length-le none f = omega arith
length-le {A = A} {ys = ys} (more {x = x} {xs = xs} n d) f = omega (arith, without-length (f x first), length-le d keeps)
  where
    keeps : (y : A) → One y xs → One y (without (f x first))
    keeps y o = ⊎_elim (λ e. absurd (n (subst (λ (z : A). One z xs) e o))) (λ q. q) (without-keeps (f x first) (f y (later o)))

-- two lists without repeats that have the same members are equally long
pub same_length : {A : Type 0} {xs ys : List A} → Distinct xs → Distinct ys → ((x : A) → One x xs → One x ys) → ((x : A) → One x ys → One x xs) → length xs ≡ length ys
same_length d e f g = omega (arith, length-le d f, length-le e g)

-- ---- numbers

-- there is one number
pub number-unique : {A : Type 0} {P : A → Type 0} {j k : ℕ} → Number P j → Number P k → j ≡ k
number-unique a b =
    sym a.count
    ∙ same_length a.distinct b.distinct (λ x o. b.whole x (a.sound x o)) (λ x o. a.whole x (b.sound x o))
    ∙ b.count

-- the same number written otherwise
pub number_at : {A : Type 0} {P : A → Type 0} {j k : ℕ} → j ≡ k → Number P j → Number P k
number_at e a = record { all = a.all; distinct = a.distinct; sound = a.sound; whole = a.whole; count = a.count ∙ e }

-- what means the same has the same number
pub number-iff : {A : Type 0} {P Q : A → Type 0} {k : ℕ} → ((x : A) → P x → Q x) → ((x : A) → Q x → P x) → Number P k → Number Q k
number-iff f g a = record { all = a.all; distinct = a.distinct; sound = λ x o. f x (a.sound x o); whole = λ x q. a.whole x (g x q); count = a.count }

-- what never holds has the number 0
pub number-none : {A : Type 0} {P : A → Type 0} → ((x : A) → ¬ (P x)) → Number P 0
number-none f = record { all = []; distinct = none; sound = λ x o. absurd (one_none o); whole = λ x p. absurd (f x p); count = refl }

-- one thing more
pub number_more : {A : Type 0} {P : A → Type 0} {x : A} {k : ℕ} → ¬ (P x) → Number P k → Number (λ y. (y ≡ x) ⊎ P y) (suc k)
number_more {A} {P} {x} n a = record {
  all = x ∷ a.all;
  distinct = more (λ o. n (a.sound x o)) a.distinct;
  sound = λ y o. ⊎_elim inl (λ q. inr (a.sound y q)) (one-cases o);
  whole = λ y. ⊎_elim (λ e. subst (λ (z : A). One z (x ∷ a.all)) (sym e) first) (λ p. later (a.whole y p));
  count = ap suc a.count;
}

-- ---- two kinds together, and apart

or-list : {A : Type 0} {Q : A → Type 0} {xs : List A} {k : ℕ} → Distinct xs → ((x : A) → One x xs → ¬ (Q x)) → Number Q k → Number (λ x. One x xs ⊎ Q x) (length xs + k)
or-list none f b = number_at (omega arith) (number-iff (λ x q. inr q) (λ x. ⊎_elim (λ o. absurd (one_none o)) (λ q. q)) b)
or-list {A} {Q} (more {x = x} {xs = xs} n d) f b =
    number_at (omega arith) (number-iff to from (number_more (⊎_elim n (f x first)) (or-list d (λ y o. f y (later o)) b)))
  where
    to : (y : A) → (y ≡ x) ⊎ (One y xs ⊎ Q y) → One y (x ∷ xs) ⊎ Q y
    to y = ⊎_elim (λ e. inl (subst (λ (z : A). One z (x ∷ xs)) (sym e) first)) (⊎_elim (λ o. inl (later o)) inr)

    from : (y : A) → One y (x ∷ xs) ⊎ Q y → (y ≡ x) ⊎ (One y xs ⊎ Q y)
    from y = ⊎_elim (λ o. ⊎_elim inl (λ q. inr (inl q)) (one-cases o)) (λ q. inr (inr q))

-- two kinds that exclude each other
pub number-or : {A : Type 0} {P Q : A → Type 0} {j k : ℕ} → ((x : A) → P x → ¬ (Q x)) → Number P j → Number Q k → Number (λ x. P x ⊎ Q x) (j + k)
number-or {k = k} f a b =
    number_at (ap (λ (i : ℕ). i + k) a.count)
    (number-iff (λ x. ⊎_elim (λ o. inl (a.sound x o)) inr) (λ x. ⊎_elim (λ p. inl (a.whole x p)) inr) (or-list a.distinct (λ x o. f x (a.sound x o)) b))

-- a part has no greater number
pub number-le : {A : Type 0} {P Q : A → Type 0} {j k : ℕ} → ((x : A) → P x → Q x) → Number P j → Number Q k → j ≤ k
number-le f a b = omega (arith, length-le a.distinct (λ x o. b.whole x (f x (a.sound x o))))

-- a part that can be told, and what is left, make the whole
pub number-join : {A : Type 0} {P Q : A → Type 0} {j m : ℕ} → ((x : A) → Dec (P x)) → ((x : A) → P x → Q x) → Number P j → Number (λ x. Q x × ¬ (P x)) m → Number Q (j + m)
number-join {A} {P} {Q} d f a b = number-iff (λ x. ⊎_elim (f x) (λ r. r.0)) (λ x q. tell x q (d x)) (number-or (λ x p r. r.1 p) a b)
  where
    tell : (x : A) → Q x → Dec (P x) → P x ⊎ (Q x × ¬ (P x))
    tell x q (yes p) = inl p
    tell x q (no p) = inr (q, p)

-- those of a list that can be told have a number
sift : {A : Type 0} {P : A → Type 0} {xs : List A} → ((x : A) → Dec (P x)) → Distinct xs → (m : ℕ) × Number (λ x. One x xs × P x) m
sift d none = (0, number-none (λ x r. one_none r.0))
sift {A} {P} d (more {x = x} {xs = xs} n e) = go (d x) (sift d e)
  where
    Sifted : List A → ℕ → Type 0
    Sifted ys m = Number (λ y. One y ys × P y) m

    go : Dec (P x) → (m : ℕ) × Sifted xs m → (m : ℕ) × Sifted (x ∷ xs) m
    go (yes p) r = (
      suc r.0,
      number-iff (λ y. ⊎_elim (λ e. subst (λ (z : A). One z (x ∷ xs) × P z) (sym e) (first, p)) (λ q. (later q.0, q.1)))
          (λ y q. ⊎_elim inl (λ o. inr (o, q.1)) (one-cases q.0))
          (number_more (λ q. n q.0) r.1),
    )
    go (no p) r = (
      r.0,
      number-iff (λ y q. (later q.0, q.1)) (λ y q. (⊎_elim (λ e. absurd (p (subst (λ (z : A). P z) e q.1))) (λ o. o) (one-cases q.0), q.1)) r.1,
    )

-- of a kind with a number, what is left without a part that can be told and has a number
pub number-split : {A : Type 0} {P Q : A → Type 0} {j k : ℕ} → ((x : A) → Dec (P x)) → ((x : A) → P x → Q x) → Number P j → Number Q k → Number (λ x. Q x × ¬ (P x)) (k - j)
number-split {A} {P} {Q} {j} {k} d f a b = number_at (omega (arith, number-unique (number-join d f a rest) b)) rest
  where
    found : (m : ℕ) × Number (λ x. One x b.all × ¬ (P x)) m
    found = sift (λ x. Dec.not (d x)) b.distinct

    rest : Number (λ x. Q x × ¬ (P x)) found.0
    rest = number-iff (λ x r. (b.sound x r.0, r.1)) (λ x r. (b.whole x r.0, r.1)) found.1

-- ---- numbers, and images

-- there are n numbers below n
pub number-below : (n : ℕ) → Number (λ (x : ℕ). x < n) n
number-below zero = number-none (λ x l. omega arith)
number-below (suc n) = number-iff (λ x. ⊎_elim (λ e. omega arith) (λ l. omega arith)) (λ x l. below x l (ℕ_discrete x n)) (number_more (λ l. omega arith) (number-below n))
  where
    below : (x : ℕ) → x < suc n → Dec (x ≡ n) → (x ≡ n) ⊎ (x < n)
    below x l (yes e) = inl e
    below x l (no e) = inr (omega arith)

map-list : {A B : Type 0} {xs : List A} (f : A → B) → Distinct xs → ((x z : A) → One x xs → One z xs → f x ≡ f z → x ≡ z) → Number (λ (y : B). (x : A) × One x xs × (y ≡ f x)) (length xs)
map-list f none inj = number-none (λ y p. one_none p.1)
map-list {A} {B} f (more {x = x} {xs = xs} n d) inj = number-iff to from (number_more apart (map-list f d (λ z w o q. inj z w (later o) (later q))))
  where
    Image : List A → B → Type 0
    Image ys y = (z : A) × One z ys × (y ≡ f z)

    apart : ¬ (Image xs (f x))
    apart p = n (subst (λ (z : A). One z xs) (sym (inj x p.0 first (later p.1) p.2)) p.1)

    to : (y : B) → (y ≡ f x) ⊎ Image xs y → Image (x ∷ xs) y
    to y = ⊎_elim (λ e. (x, first, e)) (λ p. (p.0, later p.1, p.2))

    from : (y : B) → Image (x ∷ xs) y → (y ≡ f x) ⊎ Image xs y
    from y p = ⊎_elim (λ e. inl (p.2 ∙ ap f e)) (λ o. inr (p.0, o, p.2)) (one-cases p.1)

-- the images under a function that keeps things of the kind apart
pub number-map : {A B : Type 0} {P : A → Type 0} {k : ℕ} (f : A → B) → ((x z : A) → P x → P z → f x ≡ f z → x ≡ z) → Number P k → Number (λ (y : B). (x : A) × P x × (y ≡ f x)) k
number-map f inj a =
    number_at a.count
    (number-iff (λ y p. (p.0, a.sound p.0 p.1, p.2)) (λ y p. (p.0, a.whole p.0 p.1, p.2))
    (map-list f a.distinct (λ x z o q. inj x z (a.sound x o) (a.sound z q))))

-- that no two of a list are equal is one fact: it has one proof at most
pub distinct-prop : {A : Type 0} (xs : List A) → IsProp (Distinct xs)
distinct-prop [] none none = refl
distinct-prop (x ∷ xs) (more p d) (more q e) = ap₂ more (¬_prop p q) (distinct-prop xs d e)
