-- Laws of parts: a part with one element missing lies within a list with one taken out. Assumes nothing.
use Rattle.std.specs.Prelude.{◌≡◌, refl, ◌⊎◌, List, [], ◌∷◌, ◌++◌, ◌<◌, length}
use Rattle.std.proofs.Common.{sym, ap, subst, inl, inr, arith}
use Rattle.logic.specs.Number.{One}
use Rattle.logic.specs.Number.One.{first, later}
use Rattle.logic.specs.laws.Number.{one-cases}
use Rattle.reason.specs.own.Grows.{Grows}
use Rattle.reason.specs.Part.{Minimal, Part}
use Rattle.reason.specs.Part.Part.{none, keep, leave}

module _ {A : Type 0} where
  -- ---- elements of joined lists

  pub one_left : {x : A} {xs : List A} (ys : List A) → One x xs → One x (xs ++ ys)
  one_left ys first = first
  one_left ys (later o) = later (one_left ys o)

  pub one_right : {x : A} (xs : List A) {ys : List A} → One x ys → One x (xs ++ ys)
  one_right [] o = o
  one_right (y ∷ xs) o = later (one_right xs o)

  pub one-either : {x : A} (xs : List A) {ys : List A} → One x (xs ++ ys) → One x xs ⊎ One x ys
  one-either [] o = inr o
  one-either {x} (y ∷ xs) {ys} o = by (one-cases o) (λ p. one-either xs p)
    where
      more : One x xs ⊎ One x ys → One x (y ∷ xs) ⊎ One x ys
      more (inl p) = inl (later p)
      more (inr p) = inr p

      by : (x ≡ y) ⊎ One x (xs ++ ys) → (One x (xs ++ ys) → One x xs ⊎ One x ys) → One x (y ∷ xs) ⊎ One x ys
      by (inl e) f = inl (subst (λ (z : A). One z (y ∷ xs)) (sym e) first)
      by (inr p) f = more (f p)

  -- what each of two lists has, both have together
  pub one-joined : {x : A} (xs ys : List A) {zs : List A} → (One x xs → One x zs) → (One x ys → One x zs) → One x (xs ++ ys) → One x zs
  one-joined {x} xs ys {zs} f g o = by (one-either xs o)
    where
      by : One x xs ⊎ One x ys → One x zs
      by (inl p) = f p
      by (inr p) = g p

  -- ---- parts

  pub part-one : {ps xs : List A} {x : A} → Part ps xs → One x ps → One x xs
  part-one none o = o
  part-one {x = x} (keep {x = y} {ps = ps} {xs = xs} p) o = by (one-cases o) (λ q. part-one p q)
    where
      by : (x ≡ y) ⊎ One x ps → (One x ps → One x xs) → One x (y ∷ xs)
      by (inl e) f = subst (λ (z : A). One z (y ∷ xs)) (sym e) first
      by (inr q) f = later (f q)
  part-one (leave p) o = later (part-one p o)

  pub part-all : (xs : List A) → Part xs xs
  part-all [] = none
  part-all (x ∷ xs) = keep (part-all xs)

  pub part-nothing : (xs : List A) → Part [] xs
  part-nothing [] = none
  part-nothing (x ∷ xs) = leave (part-nothing xs)

  -- the whole list with one element taken out
  pub record Lacks (fewer all : List A) : Type 0 where
    pub before : List A
    pub out : A
    pub after : List A
    pub is : all ≡ before ++ out ∷ after
    pub within : (x : A) → One x fewer → One x (before ++ after)

  -- a part that has fewer elements lacks one
  part-lacks : {ps xs : List A} → Part ps xs → length ps < length xs → Lacks ps xs
  part-lacks none h = absurd (omega arith)
  part-lacks (keep {x = y} {ps = ps} {xs = xs} p) h = more (part-lacks p (omega arith))
    where
      more : Lacks ps xs → Lacks (y ∷ ps) (y ∷ xs)
      more l = record { before = y ∷ l.before; out = l.out; after = l.after; is = ap (◌∷◌ y) l.is; within = λ x o. by x (one-cases o) }
        where
          by : (x : A) → (x ≡ y) ⊎ One x ps → One x (y ∷ (l.before ++ l.after))
          by x (inl e) = subst (λ (z : A). One z (y ∷ (l.before ++ l.after))) (sym e) first
          by x (inr o) = later (l.within x o)
  part-lacks (leave {x = y} {xs = xs} p) h = record { before = []; out = y; after = xs; is = refl; within = λ x o. part-one p o }

  -- ---- minimal with respect to one element is minimal with respect to all parts

  pub minimal-by-one : {Enough : List A → Type 0} {all some : List A} → Grows Enough → Part some all → Enough some
      → ((before after : List A) (out : A) → some ≡ before ++ out ∷ after → ¬ (Enough (before ++ after))) → Minimal Enough all some
  minimal-by-one {Enough} {all} {some} grows part enough one = record { part = part; enough = enough; needed = needed }
    where
      needed : (fewer : List A) → Part fewer some → length fewer < length some → ¬ (Enough fewer)
      needed fewer p h e = let l = part-lacks p h in one l.before l.after l.out l.is (grows fewer (l.before ++ l.after) l.within e)
