-- Laws of the rows that mark what has a property. Assumes nothing.
use Rattle.std.specs.Prelude.{◌≡◌, refl, ◌⊎◌, Bool, true, false, List, ℕ, ◌+◌, ◌*◌, ◌/◌, ◌%◌, ◌≤◌, ◌<◌, length, get_or, set}
use Rattle.std.proofs.Common.{sym, ap, ◌∙◌, subst, inl, inr, arith, get_or-set_same, get_or-set_other}
use Rattle.std.proofs.Math.Decide.{dec_lt, ℕ_discrete}
use Rattle.logic.specs.own.Decides.{Decides}
use Rattle.row.specs.Bit.{Has}
use Rattle.row.specs.own.Row.{RowHas}
use Rattle.row.specs.own.Pick.{AllBelow, Empty, Marked, Marks, Met, Without, room}
use Rattle.row.specs.laws.Bit.{moved}

-- an empty row marks all that there is below 0
pub marks-none : {r : List ℕ} {P : ℕ → Type 0} → Empty r → Marks 0 r P
marks-none e = record { sound = λ x h. absurd (e.none x h); whole = λ x l p. absurd (omega arith) }

-- one number more
pub marks-more : {i : ℕ} {s t : List ℕ} {P : ℕ → Type 0} {on : Bool} → Marks i s P → Decides on (P i) → Marked on i s t → Marks (i + 1) t P
marks-more {i} {s} {t} {P} {on} m d e = record { sound = λ x h. sound x (e.only x h); whole = λ x l p. whole x l p (ℕ_discrete x i) }
  where
    sound : (x : ℕ) → RowHas s x ⊎ ((on ≡ true) × (x ≡ i)) → (x < i + 1) × P x
    sound x (inl h) = (omega (arith, (m.sound x h).0), (m.sound x h).1)
    sound x (inr h) = (omega (arith, h.1), subst P (sym h.1) (d.holds h.0))

    told : (b : Bool) → on ≡ b → P i → on ≡ true
    told true q p = q
    told false q p = absurd (d.fails q p)

    whole : (x : ℕ) → x < i + 1 → P x → Dec (x ≡ i) → RowHas t x
    whole x l p (yes q) = subst (λ (y : ℕ). RowHas t y) (sym q) (e.gets (told on refl (subst P q p)))
    whole x l p (no q) = e.keeps x (m.whole x (omega arith) p)

-- after the last number
pub marks-done : {i n : ℕ} {r : List ℕ} {P : ℕ → Type 0} → Marks i r P → i ≤ n → n ≤ i → Marks n r P
marks-done m h l = record { sound = λ x b. (omega (arith, (m.sound x b).0), (m.sound x b).1); whole = λ x lx p. m.whole x (omega arith) p }

-- what means the same is marked by the same row
pub marks-iff : {n : ℕ} {r : List ℕ} {P Q : ℕ → Type 0} → ((x : ℕ) → x < n → P x → Q x) → ((x : ℕ) → x < n → Q x → P x) → Marks n r P → Marks n r Q
marks-iff f g m = record { sound = λ x h. let p = m.sound x h in (p.0, f x p.0 p.1); whole = λ x l q. m.whole x l (g x l q) }

-- an empty row marks what has the property P, where no number below n has it
pub marks-never : {n : ℕ} {r : List ℕ} {P : ℕ → Type 0} → Empty r → ((x : ℕ) → x < n → ¬ (P x)) → Marks n r P
marks-never e f = record { sound = λ x h. absurd (e.none x h); whole = λ x l p. absurd (f x l p) }

-- the row of all numbers below n marks what has the property P, where all of them have it
pub marks-ever : {n : ℕ} {r : List ℕ} {P : ℕ → Type 0} → AllBelow n r → ((x : ℕ) → x < n → P x) → Marks n r P
marks-ever a f = record { sound = λ x h. let l = a.only x h in (l, f x l); whole = λ x l p. a.has x l }

-- the numbers below n that a row has not
pub marks-rest : {n : ℕ} {all p r : List ℕ} → n ≤ 64 * room → AllBelow n all → Without all p r → Marks n r (λ x. ¬ (RowHas p x))
marks-rest small a w = record { sound = λ x h. (a.only x (w.left x h), w.right x h); whole = λ x l p. w.has x (omega arith) (a.has x l) p }

-- what a row marks and another row has
pub marks-also : {n : ℕ} {all p r : List ℕ} {P : ℕ → Type 0} → n ≤ 64 * room → Marks n all P → Met all p r → Marks n r (λ x. P x × RowHas p x)
marks-also small m d = record {
  sound = λ x h. let a = m.sound x (d.left x h) in (a.0, (a.1, d.right x h));
  whole = λ x l h. d.has x (omega arith) (m.whole x l h.0) h.1;
}

-- the numbers below n that a row has
pub marks-below : {n : ℕ} {all p r : List ℕ} → n ≤ 64 * room → AllBelow n all → Met all p r → Marks n r (RowHas p)
marks-below small a m = record { sound = λ x h. (a.only x (m.left x h), m.right x h); whole = λ x l h. m.has x (omega arith) (a.has x l) h }

-- the numbers below n that two rows have
pub marks-shared : {n : ℕ} {all p q both r : List ℕ} → n ≤ 64 * room → AllBelow n all → Met p q both → Met all both r → Marks n r (λ x. RowHas p x × RowHas q x)
marks-shared small a m t = record {
  sound = λ x h. let b = t.right x h in (a.only x (t.left x h), (m.left x b, m.right x b));
  whole = λ x l h. t.has x (omega arith) (a.has x l) (m.has x (omega arith) h.0 h.1);
}

-- from i on, no number below j has the property
pub marks-skip : {i j : ℕ} {r : List ℕ} {P : ℕ → Type 0} → Marks i r P → i ≤ j → ((x : ℕ) → i ≤ x → x < j → ¬ (P x)) → Marks j r P
marks-skip {i} {j} {r} {P} m l f = record { sound = λ x h. let y = m.sound x h in (omega (arith, y.0), y.1); whole = λ x lx p. whole x lx p (dec_lt x i) }
  where
    whole : (x : ℕ) → x < j → P x → Dec (x < i) → RowHas r x
    whole x lx p (yes h) = m.whole x h p
    whole x lx p (no h) = absurd (f x (omega arith) lx p)

-- ---- a row made word by word

-- before the first word
pub words-none : {n : ℕ} {r : List ℕ} {P : ℕ → Type 0} → Empty r → Marks n r (λ x. (x / 64 < 0) × P x)
words-none e = marks-never e (λ x l z. omega (arith, z.0))

-- one word more
pub words_more : {n h w : ℕ} {r : List ℕ} {P : ℕ → Type 0} → Marks n r (λ x. (x / 64 < h) × P x) → h < length r → ((x : ℕ) → x / 64 ≡ h → Has w (x % 64) → (x < n) × P x)
    → ((x : ℕ) → x / 64 ≡ h → x < n → P x → Has w (x % 64)) → Marks n (set r h w) (λ x. (x / 64 < h + 1) × P x)
words_more {n} {h} {w} {r} {P} m l f g = record { sound = λ x z. sound x z (ℕ_discrete (x / 64) h); whole = λ x lx z. whole x lx z (ℕ_discrete (x / 64) h) }
  where
    here : (x : ℕ) → x / 64 ≡ h → get_or (set r h w) (x / 64) 0 ≡ w
    here x q = ap (λ (i : ℕ). get_or (set r h w) i 0) q ∙ get_or-set_same r h w 0 l

    sound : (x : ℕ) → RowHas (set r h w) x → Dec (x / 64 ≡ h) → (x < n) × ((x / 64 < h + 1) × P x)
    sound x z (yes q) = let y = f x q (moved (here x q) z) in (y.0, (omega arith, y.1))
    sound x z (no q) = let y = m.sound x (moved (get_or-set_other r h (x / 64) w 0 q) z) in (y.0, (omega (arith, y.1.0), y.1.1))

    whole : (x : ℕ) → x < n → (x / 64 < h + 1) × P x → Dec (x / 64 ≡ h) → RowHas (set r h w) x
    whole x lx z (yes q) = moved (sym (here x q)) (g x q lx z.1)
    whole x lx z (no q) = moved (sym (get_or-set_other r h (x / 64) w 0 q)) (m.whole x lx (omega (arith, z.0), z.1))

-- after the last word
pub words-done : {n h : ℕ} {r : List ℕ} {P : ℕ → Type 0} → Marks n r (λ x. (x / 64 < h) × P x) → n ≤ 64 * h → Marks n r P
words-done m l = marks-iff (λ x lx z. z.1) (λ x lx z. (omega arith, z)) m
