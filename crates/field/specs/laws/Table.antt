-- Laws of names by their entries. Assumes nothing.
use Rattle.std.specs.Prelude.{◌≡◌, refl, Bool, true, false, List, [], ◌∷◌, map, ◌++◌, ℕ, zero, suc, ◌+◌, ◌-◌, ◌≤◌, ◌<◌, length, get_or, take, drop, set}
use Rattle.std.proofs.Common.{sym, ap, ◌∙◌, subst, ⊎_elim, arith, add-one, length-drop, length-set, length-take-le, get_or-set_other, get_or-set_same, get_or-take, get_or-drop, take-suc-set, drop-drop, drop-set-lt}
use Rattle.std.proofs.lemmas.List.{length-map, take-set-le, drop-set-add}
use Rattle.std.proofs.Math.ListN.{get_or-map}
use Rattle.std.proofs.Math.Decide.{ℕ_discrete}
use Rattle.logic.specs.Number.{One, Distinct}
use Rattle.logic.specs.Number.One.{first, later}
use Rattle.logic.specs.Number.Distinct.{none, more}
use Rattle.logic.specs.laws.Number.{one-cases, one_none}
use Rattle.text.specs.Bytes.{same, place}
use Rattle.text.specs.laws.Bytes.{same_true, same-all, place_here, place_none, place-on}
use Rattle.field.specs.own.Table.{Hinted, Listed, Noted, Placed, Table, Tidy, concepts_from, entered, hint_at, hint_count, items_from, name_at, names_of, roles_from, room_at, room_of}
use Rattle.field.specs.laws.Tag.{tag-none, tagged-own}
use Rattle.field.specs.Names.{counts_of}
use Rattle.field.specs.Words.{Field}

-- ---- lists of names

-- what is the same is told to be
same_refl : (a : Field) → same a a ≡ true
same_refl a = same-all a a refl (λ i h. refl)

-- what stands at a place of a list is one of it
at_one : (xs : List Field) (k : ℕ) → k < length xs → One (get_or xs k []) xs
at_one [] k h = absurd (omega arith)
at_one (x ∷ xs) zero h = first
at_one (x ∷ xs) (suc k) h = later (at_one xs k (omega arith))

-- in a list without repeats a place that has the name is THE place
pub place-there : {xs : List Field} (w : Field) (k : ℕ) → Distinct xs → k < length xs → same w (get_or xs k []) ≡ true → k ≡ place w xs
place-there w k none h e = absurd (omega arith)
place-there w zero (more {x = x} {xs = xs} n d) h e = sym (place_here w x xs e)
place-there w (suc k) (more {x = x} {xs = xs} n d) h e = go (same w x) refl (place-there w k d (omega arith) e)
  where
    go : (b : Bool) → same w x ≡ b → k ≡ place w xs → suc k ≡ place w (x ∷ xs)
    go true q r = absurd (n (subst (λ (z : Field). One z xs) (sym (same_true w (get_or xs k []) e) ∙ same_true w x q) (at_one xs k (omega arith))))
    go false q r = ap suc r ∙ sym (place-on w x xs q)

-- a name whose place is past the end is none of the list
place_out : (w : Field) (xs : List Field) → length xs ≤ place w xs → ¬ (One w xs)
place_out w [] h o = one_none o
place_out w (x ∷ xs) h o = go (same w x) refl (place_out w xs)
  where
    go : (b : Bool) → same w x ≡ b → (length xs ≤ place w xs → ¬ (One w xs)) → ⊥
    go true q f = omega (arith, place_here w x xs q)
    go false q f =
        ⊎_elim (λ e. let z : ◌≡◌ {A = ℕ} 0 1 = cc (same_refl w, q, e) in omega arith)
        (λ r. f (omega (arith, place-on w x xs q)) r)
        (one-cases o)

-- one whose place is in it is one of it
pub place-one : (w : Field) (xs : List Field) → place w xs < length xs → One w xs
place-one w [] h = absurd (omega arith)
place-one w (x ∷ xs) h = go (same w x) refl (place-one w xs)
  where
    go : (b : Bool) → same w x ≡ b → (place w xs < length xs → One w xs) → One w (x ∷ xs)
    go true q f = subst (λ (z : Field). One w (z ∷ xs)) (same_true w x q) first
    go false q f = later (f (omega (arith, place-on w x xs q)))

-- one that is none of it has its place past the end
place-absent : (w : Field) (xs : List Field) → ¬ (One w xs) → place w xs ≡ length xs
place-absent w [] f = place_none w
place-absent w (x ∷ xs) f = go (same w x) refl (place-absent w xs (λ o. f (later o)))
  where
    go : (b : Bool) → same w x ≡ b → place w xs ≡ length xs → place w (x ∷ xs) ≡ suc (length xs)
    go true q r = absurd (f (subst (λ (z : Field). One w (z ∷ xs)) (same_true w x q) first))
    go false q r = place-on w x xs q ∙ ap suc r

-- one more at the end
one_end : {w y : Field} (xs : List Field) → One y (xs ++ (w ∷ [])) → (One y xs → ⊥) → y ≡ w
one_end [] o f = ⊎_elim (λ e. e) (λ q. absurd (one_none q)) (one-cases o)
one_end (x ∷ xs) o f = ⊎_elim (λ e. absurd (f (subst (λ (z : Field). One z (x ∷ xs)) (sym e) first))) (λ q. one_end xs q (λ r. f (later r))) (one-cases o)

distinct-end : {xs : List Field} (w : Field) → Distinct xs → ¬ (One w xs) → Distinct (xs ++ (w ∷ []))
distinct-end w none f = more one_none none
distinct-end w (more {x = x} {xs = xs} n d) f =
    more (λ o. f (subst (λ (z : Field). One z (x ∷ xs)) (one_end xs o n) first)) (distinct-end w d (λ q. f (later q)))

all_end : (good : Field → Bool) (w : Field) (xs : List Field) → good w ≡ true → ((f : Field) → One f xs → good f ≡ true) → (f : Field) → One f (xs ++ (w ∷ [])) → good f ≡ true
all_end good w [] g a f o = ⊎_elim (λ e. ap good e ∙ g) (λ q. absurd (one_none q)) (one-cases o)
all_end good w (x ∷ xs) g a f o = ⊎_elim (λ e. a f (subst (λ (z : Field). One f (z ∷ xs)) e first)) (λ q. all_end good w xs g (λ y r. a y (later r)) f q) (one-cases o)

-- one name more that is good and none of them
pub listed-end : (good : Field → Bool) (w : Field) (xs : List Field) → Listed good xs → good w ≡ true → length xs ≤ place w xs → Listed good (xs ++ (w ∷ []))
listed-end good w xs l g h = record { distinct = distinct-end w l.distinct (place_out w xs h); all = all_end good w xs g l.all }

-- no names
pub listed-none : (good : Field → Bool) → Listed good []
listed-none good = record { distinct = none; all = λ f o. absurd (one_none o) }

-- ---- entries

-- the entry 0 has no name
entry-none : (sheet : List ℕ) → name_at sheet 0 ≡ []
entry-none sheet = tagged-own 0 [] (sym (tag-none [] refl))

module _ (sheet numbers : List ℕ) (from n : ℕ) (room : from + n ≤ length numbers) where
  pub entered-length : length (entered sheet numbers from n) ≡ n
  entered-length = rw length-map (length-take-le n (drop from numbers) (rw length-drop (omega arith)))

  pub entered_at : (k : ℕ) → k < n → get_or (entered sheet numbers from n) k [] ≡ name_at sheet (get_or numbers (from + k) 0)
  entered_at k h =
      ap (get_or (entered sheet numbers from n) k) (sym (entry-none sheet))
      ∙ get_or-map (name_at sheet) (take n (drop from numbers)) k 0 ∙ ap (name_at sheet) (get_or-take n (drop from numbers) k 0 h ∙ get_or-drop from numbers k 0)

  -- a place below n whose entry has the name
  pub hinted : (w : Field) (k : ℕ) → k < n → Distinct (entered sheet numbers from n) → same w (name_at sheet (get_or numbers (from + k) 0)) ≡ true → Placed w (entered sheet numbers from n) n k
  hinted w k h d e = record { place = place-there w k d (omega (arith, entered-length)) (rw (entered_at k h) e); count = entered-length }

-- the names are as many as the table counts
pub counts_of-names_of : (sheet : List ℕ) (t : Table) → Tidy sheet t → counts_of (names_of sheet t) ≡ t.counts
counts_of-names_of sheet t y =
    rw (
      entered-length sheet t.numbers items_from t.counts.items (omega (arith, y.long, y.room.items)),
      entered-length sheet t.numbers concepts_from t.counts.concepts (omega (arith, y.long, y.room.concepts)),
      entered-length sheet t.numbers roles_from t.counts.roles (omega (arith, y.long, y.room.roles)),
    )

append-map : (f : ℕ → Field) (xs ys : List ℕ) → map f (xs ++ ys) ≡ map f xs ++ map f ys
append-map f [] ys = refl
append-map f (x ∷ xs) ys = ap (λ (l : List Field). f x ∷ l) (append-map f xs ys)

-- an entry and a hint were put into the numbers
pub noted-both : (numbers : List ℕ) (i p q k l h : ℕ) → k < hint_count → k ≡ l → hint_count ≤ i → i < length numbers → p ≡ q → Noted numbers i q l (set (set numbers i p) k (h + 1))
noted-both numbers i p q k l h g z after inside e =
    record {
      entries = drop-set-lt hint_count (set numbers i p) k (h + 1) g ∙ ap (λ (r : ℕ). drop hint_count (set numbers i r)) e;
      long = length-set (set numbers i p) k (h + 1) ∙ length-set numbers i p;
      here = λ y. omega (arith, here ∙ ap (λ (r : ℕ). get_or (set (set numbers i p) k (h + 1)) r 0) z ∙ y);
      still = λ r b y. go r b (ℕ_discrete r k) y;
    }
  where
    here : h + 1 ≡ get_or (set (set numbers i p) k (h + 1)) k 0
    here = sym (get_or-set_same (set numbers i p) k (h + 1) 0 (rw length-set (omega arith)))

    go : (r : ℕ) → r < hint_count → Dec (r ≡ k) → get_or (set (set numbers i p) k (h + 1)) r 0 ≡ 0 → get_or numbers r 0 ≡ 0
    go r b (yes x) y = absurd (omega (arith, here ∙ ap (λ (v : ℕ). get_or (set (set numbers i p) k (h + 1)) v 0) (sym x) ∙ y))
    go r b (no x) y = sym (get_or-set_other numbers i r p 0 (λ v. omega arith)) ∙ sym (get_or-set_other (set numbers i p) k r (h + 1) 0 x) ∙ y

-- a name without a hint is none of those that have one
pub unhinted : (sheet numbers : List ℕ) (from n : ℕ) (w : Field) → from + n ≤ length numbers → Hinted numbers from (entered sheet numbers from n) → get_or numbers (hint_at from w) 0 ≡ 0 → Placed w (entered sheet numbers from n) n n
unhinted sheet numbers from n w room h e =
    let l = entered-length sheet numbers from n room in
    record { place = sym l ∙ sym (place-absent w (entered sheet numbers from n) (λ o. h w o e)); count = l }

-- one name more, with its hint
pub hinted-end : (numbers exit : List ℕ) (from : ℕ) (names : List Field) (w : Field) → Hinted numbers from names → ((k : ℕ) → k < hint_count → get_or exit k 0 ≡ 0 → get_or numbers k 0 ≡ 0) → (get_or exit (hint_at from w) 0 ≡ 0 → ⊥)
    → Hinted exit from (names ++ (w ∷ []))
hinted-end numbers exit from [] w h still here v o e = ⊎_elim (λ q. here (ap (λ (x : Field). get_or exit (hint_at from x) 0) (sym q) ∙ e)) (λ q. one_none q) (one-cases o)
hinted-end numbers exit from (x ∷ names) w h still here v o e =
    ⊎_elim (λ q. h v (subst (λ (y : Field). One v (y ∷ names)) q first) (still (hint_at from v) (omega arith) e)) (λ q. hinted-end numbers exit from names w (λ y r. h y (later r)) still here v q e) (one-cases o)

-- no hint was taken out
pub hinted-still : (numbers exit : List ℕ) (from : ℕ) (names : List Field) → Hinted numbers from names → ((k : ℕ) → k < hint_count → get_or exit k 0 ≡ 0 → get_or numbers k 0 ≡ 0) → Hinted exit from names
hinted-still numbers exit from names h still v o e = h v o (still (hint_at from v) (omega arith) e)

module _ (sheet numbers : List ℕ) (i p hint : ℕ) (exit : List ℕ) (noted : Noted numbers i p hint exit) where
  part-noted : (from : ℕ) → hint_count ≤ from → drop from exit ≡ drop from (set numbers i p)
  part-noted from h =
      let z : hint_count + (from - hint_count) ≡ from = omega arith in
      subst (λ (k : ℕ). drop k exit ≡ drop k (set numbers i p)) z
      (sym (drop-drop (from - hint_count) hint_count exit) ∙ ap (drop (from - hint_count)) noted.entries ∙ drop-drop (from - hint_count) hint_count (set numbers i p))

  -- names of another kind, before it or after it
  pub noted-after : (from n : ℕ) → hint_count ≤ from → i < from → entered sheet exit from n ≡ entered sheet numbers from n
  noted-after from n h g = ap (λ (l : List ℕ). map (name_at sheet) (take n l)) (part-noted from h ∙ drop-set-lt from numbers i p g)

  pub noted-before : (from n : ℕ) → hint_count ≤ from → from + n ≤ i → entered sheet exit from n ≡ entered sheet numbers from n
  noted-before from n h g =
      let z : i ≡ from + (i - from) = omega arith in
      ap (map (name_at sheet)) (ap (take n) (part-noted from h) ∙ ap (λ (k : ℕ). take n (drop from (set numbers k p))) z ∙ ap (take n) (drop-set-add from numbers (i - from) p)
      ∙ take-set-le n (drop from numbers) (i - from) p (omega arith))

  -- names of its own kind: one more
  pub noted-own : (from n : ℕ) → hint_count ≤ from → i ≡ from + n → i < length numbers → entered sheet exit from (n + 1) ≡ entered sheet numbers from n ++ (name_at sheet p ∷ [])
  noted-own from n h e l =
      ap (map (name_at sheet))
      (ap (take (n + 1)) (part-noted from h) ∙ ap (λ (k : ℕ). take (n + 1) (drop from (set numbers k p))) e ∙ ap (take (n + 1)) (drop-set-add from numbers n p) ∙ one_more)
      ∙ append-map (name_at sheet) (take n (drop from numbers)) (p ∷ [])
    where
      one_more : take (n + 1) (set (drop from numbers) n p) ≡ take n (drop from numbers) ++ (p ∷ [])
      one_more = rw add-one (take-suc-set (drop from numbers) n p (rw length-drop (omega arith)))

  -- how many items there is room for
  pub noted-room : (i ≡ room_at → ⊥) → room_of exit ≡ room_of numbers
  noted-room h = sym (get_or-drop hint_count exit (room_at - hint_count) 0) ∙ ap (λ (l : List ℕ). get_or l (room_at - hint_count) 0) noted.entries ∙ get_or-drop hint_count (set numbers i p) (room_at - hint_count) 0 ∙ get_or-set_other numbers i room_at p 0 (λ e. h (sym e))
