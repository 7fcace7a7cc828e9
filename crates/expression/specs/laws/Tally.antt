-- Laws of tallies: an item more moves what it is linked to one word up. Assumes nothing.
use Rattle.std.specs.Prelude.{◌≡◌, refl, ◌⊎◌, true, List, ℕ, zero, suc, ◌+◌, ◌-◌, ◌/◌, ◌%◌, ◌^◌, ◌≤◌, ◌<◌, length, get_or, set}
use Rattle.std.proofs.Common.{sym, ap, ◌∙◌, subst, inl, inr, ⊎_elim, pow-suc, div-one, mod-lt, arith, pow_pos, length-set, get_or-set_same, get_or-set_other}
use Rattle.std.proofs.Math.Decide.{ℕ_discrete, dec_lt}
use Rattle.std.specs.Int.Bits.{bit_or, bit_and}
use Rattle.logic.specs.laws.Number.{number-iff, number_more, number-none, number-unique, one_of}
use Rattle.row.specs.Bit.{Has}
use Rattle.row.specs.own.Row.{RowHas}
use Rattle.row.specs.own.Pick.{Marks}
use Rattle.row.specs.laws.Bit.{and-has, and_left, and_right, at_place, half-has, has?, has-or, moved, or_left, or_right, zero-none}
use Rattle.row.specs.laws.Marks.{words_more}
use Rattle.row.specs.laws.Rows.{zero_word, zeros}
use Rattle.store.specs.declared.Counts.{Counts}
use Rattle.store.specs.Cell.{Cell}
use Rattle.store.specs.Cell.Cell.{Link}
use Rattle.store.specs.Layout.{ClosedStore, Holds}
use Rattle.store.specs.own.Look.{LinkWord}
use Rattle.rule.specs.Meaning.{Articles, LinkedWay}
use Rattle.rule.specs.declared.RoleUse.{RoleUse}
use Rattle.expression.specs.own.Lead.{Leads}
use Rattle.expression.specs.own.Tally.{AllTell, Blank, Counted, LinkedBelow, Tallied, Tells, tally_words}
use Rattle.expression.specs.laws.Many.{articles-enough, enough-articles}

-- ---- the words of the tallies

-- every bit of a word of ones is set
ones-has : (w k : ℕ) → k < w → Has (2 ^ w - 1) k
ones-has zero k l = absurd (omega arith)
ones-has (suc w) zero l = record { bit = ap (λ (x : ℕ). x % 2) (div-one (2 ^ suc w - 1)) ∙ omega (arith, pow-suc 2 w, pow_pos w) }
ones-has (suc w) (suc k) l =
    let half : 2 ^ w - 1 ≡ (2 ^ suc w - 1) / 2 = omega (arith, pow-suc 2 w, pow_pos w) in
    half-has (2 ^ suc w - 1) k (moved half (ones-has w k (omega arith)))

-- words 0 of which the first became ones
pub blank-set : Blank (set (zeros tally_words) 0 (2 ^ 64 - 1))
blank-set = record {
  len = length-set (zeros tally_words) 0 (2 ^ 64 - 1);
  all = λ y l. moved (sym (get_or-set_same (zeros tally_words) 0 (2 ^ 64 - 1) 0 (omega arith))) (ones-has 64 y l);
  none = λ j y h. zero-none (moved (get_or-set_other (zeros tally_words) 0 (suc j) (2 ^ 64 - 1) 0 (λ e. omega arith) ∙ zero_word tally_words (suc j)) h);
}

-- before the first word
pub counted_none : (k w : ℕ) (t : List ℕ) → Counted k k w t t
counted_none k w t = record { len = refl; words = λ i a b. absurd (omega arith); below = λ i l. refl }

-- one word more, from the top down
pub counted-more : {j k w : ℕ} {s t : List ℕ} → Counted j k w s t → 0 < j → j < length s → Counted (j - 1) k w s (set t j (bit_or (get_or t j 0) (bit_and (get_or t (j - 1) 0) w)))
counted-more {j} {k} {w} {s} {t} c p l = record { len = length-set t j v ∙ c.len; words = λ i a b. go i a b (ℕ_discrete i j); below = λ i h. get_or-set_other t j i v 0 (λ e. omega arith) ∙ c.below i (omega arith) }
  where
    v : ℕ
    v = bit_or (get_or t j 0) (bit_and (get_or t (j - 1) 0) w)

    go : (i : ℕ) → j - 1 < i → i ≤ k → Dec (i ≡ j) → get_or (set t j v) i 0 ≡ bit_or (get_or s i 0) (bit_and (get_or s (i - 1) 0) w)
    go i a b (yes q) = rw q (get_or-set_same t j v 0 (omega (arith, c.len)) ∙ rw (c.below j (omega arith), c.below (j - 1) (omega arith)) refl)
    go i a b (no q) = get_or-set_other t j i v 0 q ∙ c.words i (omega arith) b

-- after the last word
pub counted-done : {j k w : ℕ} {s t : List ℕ} → Counted j k w s t → j ≡ 0 → Counted 0 k w s t
counted-done {j} {k} {w} {s} {t} c e = subst (λ (i : ℕ). Counted i k w s t) e c

-- ---- one bit of the tallies

-- the same told otherwise
tells-iff : {k w y : ℕ} {P Q : ℕ → Type 0} → ((c : ℕ) → P c → Q c) → ((c : ℕ) → Q c → P c) → Tells k P w y → Tells k Q w y
tells-iff f g e = record { number = e.number; counted = number-iff f g e.counted; sound = e.sound; whole = e.whole }

-- none is counted
tells_none : {t : List ℕ} {P : ℕ → Type 0} (y : ℕ) → Blank t → y < 64 → ((c : ℕ) → ¬ (P c)) → (j : ℕ) → Tells j P (get_or t j 0) y
tells_none y b l f zero = record { number = 0; counted = number-none f; sound = λ h. omega arith; whole = λ h. b.all y l }
tells_none y b l f (suc j) = record { number = 0; counted = number-none f; sound = λ h. absurd (b.none j y h); whole = λ h. absurd (omega arith) }

module _ {k w y : ℕ} {s t : List ℕ} {P : ℕ → Type 0} (c : Counted 0 k w s t) (f : (i : ℕ) → i ≤ k → Tells i P (get_or s i 0) y) where
  -- the bit of a word: what it was, or what the word before it and w have
  up : (j : ℕ) → suc j ≤ k → Has (get_or t (suc j) 0) y → Has (get_or s (suc j) 0) y ⊎ (Has (get_or s j 0) y × Has w y)
  up j l h =
      ⊎_elim inl (λ z. inr (at_place s (omega arith) (and_left _ _ _ z), and_right (get_or s (suc j - 1) 0) _ _ z))
      (has-or (get_or s (suc j) 0) _ _ (moved (c.words (suc j) (omega arith) l) h))

  -- one more is counted
  tells_more : (b : ℕ) → ¬ (P b) → Has w y → (j : ℕ) → j ≤ k → Tells j (λ v. (v ≡ b) ⊎ P v) (get_or t j 0) y
  tells_more b n on zero l = let e = f 0 l in record { number = suc e.number; counted = number_more n e.counted; sound = λ h. omega arith; whole = λ h. moved (sym (c.below 0 (omega arith))) (e.whole (omega arith)) }
  tells_more b n on (suc j) l = record {
    number = suc e.number;
    counted = number_more n e.counted;
    sound = λ h. ⊎_elim (λ z. omega (arith, e.sound z)) (λ z. omega (arith, d.sound z.0, equal)) (up j l h);
    whole = λ h. moved (sym (c.words (suc j) (omega arith) l)) (or_right (get_or s (suc j) 0) _ _ (and-has _ _ _ (at_place s (omega arith) (d.whole (omega (arith, equal)))) on));
  }
    where
      e : Tells (suc j) P (get_or s (suc j) 0) y
      e = f (suc j) l

      d : Tells j P (get_or s j 0) y
      d = f j (omega arith)

      equal : d.number ≡ e.number
      equal = number-unique d.counted e.counted

  -- none more is counted
  tells-still : ¬ (Has w y) → (j : ℕ) → j ≤ k → Tells j P (get_or t j 0) y
  tells-still off zero l = let e = f 0 l in record { number = e.number; counted = e.counted; sound = λ h. omega arith; whole = λ h. moved (sym (c.below 0 (omega arith))) (e.whole (omega arith)) }
  tells-still off (suc j) l = let e = f (suc j) l in record {
    number = e.number;
    counted = e.counted;
    sound = λ h. ⊎_elim e.sound (λ z. absurd (off z.1)) (up j l h);
    whole = λ h. moved (sym (c.words (suc j) (omega arith) l)) (or_left (get_or s (suc j) 0) _ _ (e.whole h));
  }

-- ---- the tallies of 64 items

-- before the first item
pub tallied-none : {C : Cell → Type 0} {r h k i : ℕ} {t : List ℕ} (p : List ℕ) → Blank t → ((c : ℕ) → c < i → ¬ (RowHas p c)) → Tallied C r p h k i t
tallied-none p e f = record { len = e.len; tells = λ j l x q. tells_none (x % 64) e (mod-lt x (omega arith)) (λ c z. f c z.0 z.2) j }

-- an item more, and none after it below i
pub tallied-more : {C : Cell → Type 0} {r h k b i w : ℕ} {s t : List ℕ} (p : List ℕ) → Tallied C r p h k b s → RowHas p b → LinkWord C r b h w → Counted 0 k w s t → b < i → ((c : ℕ) → b + 1 ≤ c → c < i → ¬ (RowHas p c)) → Tallied C r p h k i t
tallied-more {C} {r} {h} {k} {b} {i} {w} {s} {t} p m on d c l f = record { len = c.len ∙ m.len; tells = tells }
  where
    tells : (j : ℕ) → j ≤ k → AllTell h j (LinkedBelow C r p i) (get_or t j 0)
    tells j lj x q = go (has? w (x % 64))
      where
        Q : ℕ → Type 0
        Q = LinkedBelow C r p i x

        old : (v : ℕ) → LinkedBelow C r p b x v → Q v
        old v z = (omega (arith, z.0), z.1, z.2)

        cases : (v : ℕ) → Q v → (v ≡ b) ⊎ LinkedBelow C r p b x v
        cases v z = tell (ℕ_discrete v b) (dec_lt v b)
          where
            tell : Dec (v ≡ b) → Dec (v < b) → (v ≡ b) ⊎ LinkedBelow C r p b x v
            tell (yes e) y = inl e
            tell (no e) (yes y) = inr (y, z.1, z.2)
            tell (no e) (no y) = absurd (f v (omega arith) z.0 z.2)

        before : (n : ℕ) → n ≤ k → Tells n (LinkedBelow C r p b x) (get_or s n 0) (x % 64)
        before n ln = m.tells n ln x q

        go : Dec (Has w (x % 64)) → Tells j Q (get_or t j 0) (x % 64)
        go (yes y) = tells-iff (λ v. ⊎_elim (λ e. subst Q (sym e) (l, d.sound x q y, on)) (old v)) cases (tells_more c before b (λ z. omega (arith, z.0)) y j lj)
        go (no y) = tells-iff old (λ v z. ⊎_elim (λ e. absurd (y (d.whole x q (subst (λ (u : ℕ). C (Link r u x)) e z.1)))) (λ u. u) (cases v z)) (tells-still c before y j lj)

-- after the last item
pub tallied-done : {W : ℕ} {n : Counts} {s t : List ℕ} {r h k i : ℕ} {p : List ℕ} → Tallied (Holds W n s) r p h k i t → n.items ≤ i → AllTell h k (λ x y. LinkedWay (Holds W n s) true r x y × RowHas p y) (get_or t k 0)
tallied-done {k = k} m l x q = tells-iff (λ v z. (z.1, z.2)) (λ v z. (omega (arith, z.0.within), z.0, z.1)) (m.tells k (omega arith) x q)

-- ---- the row, word by word

-- a word more of the items that the role r links k or more articles of the row p to, by the items of p that lead
pub articles-more : {W : ℕ} {n : Counts} {s lead : List ℕ} {r k h w : ℕ} {t : List ℕ} (p both : List ℕ) → ClosedStore W n s → Marks n.items lead (Leads (Holds W n s) (RowHas both)) → Marks n.items both (RowHas p)
    → Marks n.items t (λ x. (x / 64 < h) × Articles (Holds W n s) n k (λ y. LinkedWay (Holds W n s) true r x y × RowHas p y)) → h < length t → 1 ≤ k
    → AllTell h k (λ x y. LinkedWay (Holds W n s) true r x y × RowHas lead y) w → Marks n.items (set t h w) (λ x. (x / 64 < h + 1) × Articles (Holds W n s) n k (λ y. LinkedWay (Holds W n s) true r x y × RowHas p y))
articles-more {W} {n} {s} {lead} {r} {k} {h} {w} p both closed d b m l some f = words_more m l sound whole
  where
    C : Cell → Type 0
    C = Holds W n s

    back : RoleUse
    back = record { role = record { 0 = r }; inverse = true }

    to : (y : ℕ) → RowHas both y → RowHas p y
    to y z = (b.sound y z).1

    from : (x y : ℕ) → C (Link r y x) → RowHas p y → RowHas both y
    from x y z e = b.whole y z.within.1 e

    sound : (x : ℕ) → x / 64 ≡ h → Has w (x % 64) → (x < n.items) × Articles C n k (λ y. LinkedWay C true r x y × RowHas p y)
    sound x q z =
        let e = f x q in
        let enough = e.sound z in
        let o = one_of e.counted.all (omega (arith, e.counted.count)) in
        let lx = (e.counted.sound o.0 o.1).0.within.2 in
        (lx, enough-articles both back x closed d lx to (from x) e.counted enough)

    whole : (x : ℕ) → x / 64 ≡ h → x < n.items → Articles C n k (λ y. LinkedWay C true r x y × RowHas p y) → Has w (x % 64)
    whole x q lx z = let e = f x q in e.whole (articles-enough both back x closed d lx to (from x) e.counted z)
