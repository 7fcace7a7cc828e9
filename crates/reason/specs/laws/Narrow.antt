-- The loop that finds a minimal part: the lines before an end, and some after it that are kept. Assumes nothing.
use Rattle.std.specs.Prelude.{◌≡◌, List, [], ◌∷◌, ◌++◌, ℕ}
use Rattle.std.proofs.Common.{sym, subst, append-nil, arith}
use Rattle.logic.specs.Number.{One}
use Rattle.reason.specs.own.Grows.{Grows}
use Rattle.reason.specs.Part.{Minimal, Part}
use Rattle.reason.specs.laws.Part.{minimal-by-one, one-joined, one_left, one_right}

-- The loop's invariant. Those in front and those kept are enough; and whichever is kept, it is needed as long as all in front are there.
pub record Narrowed {A : Type 0} (Enough : List A → Type 0) (front kept : List A) : Type 0 where
  pub enough : Enough (front ++ kept)
  pub needed : (before after : List A) (out : A) → kept ≡ before ++ out ∷ after → ¬ (Enough (front ++ (before ++ after)))

module _ {A : Type 0} where
  cons_head : {x y : A} {xs ys : List A} → x ∷ xs ≡ y ∷ ys → x ≡ y
  cons_head e = cc

  cons_tail : {x y : A} {xs ys : List A} → x ∷ xs ≡ y ∷ ys → xs ≡ ys
  cons_tail e = cc

  no-cons : (before after : List A) (out : A) → [] ≡ before ++ out ∷ after → ⊥
  no-cons [] after out e = let z : ◌≡◌ {A = ℕ} 0 1 = cc in omega arith
  no-cons (x ∷ before) after out e = let z : ◌≡◌ {A = ℕ} 0 1 = cc in omega arith

module _ {A : Type 0} {Enough : List A → Type 0} (grows : Grows Enough) where
  -- at the start all are in front, and none is kept
  pub narrow_start : {all : List A} → Enough all → Narrowed Enough all []
  narrow_start {all} e = record { enough = subst Enough (sym (append-nil all)) e; needed = λ before after out q. absurd (no-cons before after out q) }

  -- the first line of those in front with which the cell holds is kept, and those after it are dropped
  module _ {front kept : List A} (w : Narrowed Enough front kept) (f g : List A) (l : A) (is : front ≡ f ++ l ∷ g) where
    pub narrow_step : ¬ (Enough (f ++ kept)) → Enough (f ++ l ∷ kept) → Narrowed Enough f (l ∷ kept)
    narrow_step without with = record { enough = with; needed = needed }
      where
        moved : (before after : List A) (x : A) → One x (f ++ (l ∷ before ++ after)) → One x (front ++ (before ++ after))
        moved before after x o =
            subst (λ (z : List A). One x (z ++ (before ++ after))) (sym is)
            (one-joined f (l ∷ before ++ after) (λ p. one_left (before ++ after) (one_left (l ∷ g) p))
            (one-joined (l ∷ []) (before ++ after) (λ p. one_left (before ++ after) (one_right f (one_left g p))) (λ p. one_right (f ++ l ∷ g) p)) o)

        needed : (before after : List A) (out : A) → l ∷ kept ≡ before ++ out ∷ after → ¬ (Enough (f ++ (before ++ after)))
        needed [] after out e q = without (subst (λ (z : List A). Enough (f ++ z)) (sym (cons_tail e)) q)
        needed (x ∷ before) after out e q =
            w.needed before after out (cons_tail e)
            (grows (f ++ (l ∷ before ++ after)) (front ++ (before ++ after)) (moved before after) (subst (λ (z : A). Enough (f ++ (z ∷ before ++ after))) (sym (cons_head e)) q))

  -- where those kept are enough by themselves, they are minimal
  pub narrow-stop : {all front kept : List A} → Narrowed Enough front kept → Part kept all → Enough kept → Minimal Enough all kept
  narrow-stop {front = front} {kept = kept} w part enough =
      minimal-by-one grows part enough (λ before after out is e. w.needed before after out is (grows (before ++ after) (front ++ (before ++ after)) (λ x o. one_right front o) e))
