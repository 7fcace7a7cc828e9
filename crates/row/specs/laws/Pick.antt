-- Laws of rows that stand alone, as sets of numbers. Assumes nothing.
use Rattle.std.specs.Prelude.{◌≡◌, refl, ◌⊎◌, Bool, true, List, ℕ, zero, suc, ◌+◌, ◌-◌, ◌*◌, ◌/◌, ◌%◌, ◌^◌, ◌≤◌, ◌<◌, min, length, get_or, set}
use Rattle.std.proofs.Common.{sym, ap, ◌∙◌, ap₂, inl, inr, ⊎_elim, mod-lt, div-one, arith, length-set, get_or-set_same, get_or-set_other}
use Rattle.std.proofs.Math.Decide.{ℕ_discrete, dec_lt}
use Rattle.std.proofs.Math.Arith.{digits_mod}
use Rattle.std.specs.Int.Bits.{bit_and, bit_xor, differ, xor_step}
use Rattle.std.proofs.lemmas.Nat.{xor_shr}
use Rattle.std.specs.Int.Count.{count_trailing_zeros, under}
use Rattle.std.proofs.Math.ListN.{get_or-eq_default}
use Rattle.logic.specs.own.Decides.{Decides}
use Rattle.row.specs.Bit.{Has}
use Rattle.row.specs.own.Bit.{hasb, low_bits, LowestBit}
use Rattle.row.specs.own.Row.{RowHas}
use Rattle.row.specs.own.Change.{or_if}
use Rattle.row.specs.own.Pick.{AllBelow, Marked, Met, Without, room, Least, Next, Empty}
use Rattle.row.specs.laws.Bit.{has?, moved, at_place, zero-none, half-has, and-has, and_left, and_right, has-pow, pow-has, at-bit, has-half, hasb-has, hasb-not, low-has, has-low, shift-has, has-shift}
use Rattle.row.specs.laws.Rows.{zero_word, zeros, or_if-has, or_if-keeps, or_if-gets}

-- ---- a bit set

-- a list whose word has taken on the bit b of x, if `on`
pub marked-set : {v b : ℕ} (on : Bool) (x : ℕ) (s : List ℕ) → x / 64 < length s → b ≡ 2 ^ (x % 64) → v ≡ or_if on b (get_or s (x / 64) 0) → Marked on x s (set s (x / 64) v)
marked-set {v} {b} on x s l one e = record { len = length-set s (x / 64) v; keeps = λ y h. keep y h (ℕ_discrete (y / 64) (x / 64)); gets = gets; only = λ y h. only y h (ℕ_discrete (y / 64) (x / 64)) }
  where
    t : List ℕ
    t = set s (x / 64) v

    here : get_or t (x / 64) 0 ≡ or_if on b (get_or s (x / 64) 0)
    here = get_or-set_same s (x / 64) v 0 l ∙ e

    keep : (y : ℕ) → RowHas s y → Dec (y / 64 ≡ x / 64) → RowHas t y
    keep y h (yes q) = at_place t (sym q) (moved (sym here) (or_if-keeps on b (get_or s (x / 64) 0) (y % 64) (at_place s q h)))
    keep y h (no q) = moved (sym (get_or-set_other s (x / 64) (y / 64) v 0 q)) h

    gets : on ≡ true → RowHas t x
    gets o = moved (sym here) (or_if-gets on b (get_or s (x / 64) 0) (x % 64) o (moved (sym one) (pow-has (x % 64))))

    only : (y : ℕ) → RowHas t y → Dec (y / 64 ≡ x / 64) → RowHas s y ⊎ ((on ≡ true) × (y ≡ x))
    only y h (yes q) =
        ⊎_elim (λ z. inl (at_place s (sym q) z)) (λ z. inr (z.0, omega (arith, has-pow (x % 64) (y % 64) (moved one z.1))))
        (or_if-has on b (get_or s (x / 64) 0) (y % 64) (moved here (at_place t q h)))
    only y h (no q) = inl (moved (get_or-set_other s (x / 64) (y / 64) v 0 q) h)

-- ---- two rows, word by word

-- r begins with f of the words of s and t, n of them
pub record Zipped (f : ℕ → ℕ → ℕ) (s t : List ℕ) (n : ℕ) (r : List ℕ) : Type 0 where
  pub len : length r ≡ room
  pub words : (h : ℕ) → h < n → get_or r h 0 ≡ f (get_or s h 0) (get_or t h 0)

-- before the first word
pub zipped-none : (f : ℕ → ℕ → ℕ) (s t r : List ℕ) → length r ≡ room → Zipped f s t 0 r
zipped-none f s t r e = record { len = e; words = λ h l. absurd (omega arith) }

-- one word more
pub zipped-more : {f : ℕ → ℕ → ℕ} {s t r : List ℕ} {h v : ℕ} → Zipped f s t h r → h < room → v ≡ f (get_or s h 0) (get_or t h 0) → Zipped f s t (h + 1) (set r h v)
zipped-more {f} {s} {t} {r} {h} {v} z l e = record { len = length-set r h v ∙ z.len; words = λ j lj. go j lj (ℕ_discrete j h) }
  where
    go : (j : ℕ) → j < h + 1 → Dec (j ≡ h) → get_or (set r h v) j 0 ≡ f (get_or s j 0) (get_or t j 0)
    go j lj (yes p) = rw p (get_or-set_same r h v 0 (omega (arith, z.len)) ∙ e)
    go j lj (no p) = get_or-set_other r h j v 0 p ∙ z.words j (omega arith)

-- a number of the row lies within its words
pub row_room : (r : List ℕ) {n : ℕ} → length r ≡ n → (x : ℕ) → RowHas r x → x / 64 < n
row_room r {n} e x h = go (dec_lt (x / 64) n)
  where
    go : Dec (x / 64 < n) → x / 64 < n
    go (yes l) = l
    go (no l) = absurd (zero-none (moved (get_or-eq_default r 0 (omega arith)) h))

zipped-word : {f : ℕ → ℕ → ℕ} {s t r : List ℕ} {n : ℕ} → Zipped f s t n r → room ≤ n → (x : ℕ) → RowHas r x → Has (f (get_or s (x / 64) 0) (get_or t (x / 64) 0)) (x % 64)
zipped-word {r = r} z l x h = moved (z.words (x / 64) (omega (arith, row_room r z.len x h))) h

word-zipped : {f : ℕ → ℕ → ℕ} {s t r : List ℕ} {n : ℕ} → Zipped f s t n r → room ≤ n → (x : ℕ) → x < 64 * room → Has (f (get_or s (x / 64) 0) (get_or t (x / 64) 0)) (x % 64) → RowHas r x
word-zipped z l x lx h = moved (sym (z.words (x / 64) (omega arith))) h

-- what both have
pub zipped-met : {s t r : List ℕ} {n : ℕ} → Zipped bit_and s t n r → room ≤ n → Met s t r
zipped-met {s} {t} z l = record {
  has = λ x lx h k. word-zipped z l x lx (and-has _ _ _ h k);
  left = λ x h. and_left (get_or s (x / 64) 0) (get_or t (x / 64) 0) _ (zipped-word z l x h);
  right = λ x h. and_right (get_or s (x / 64) 0) (get_or t (x / 64) 0) _ (zipped-word z l x h);
}

-- the bits of a that b has not
abbrev pub less : ℕ → ℕ → ℕ
less a b = bit_xor a (bit_and a b)

bit-lt : (a k : ℕ) → a / 2 ^ k % 2 < 2
bit-lt a k = mod-lt (a / 2 ^ k) (omega arith)

xor-bit : (a b k : ℕ) → bit_xor a b / 2 ^ k % 2 ≡ differ (a / 2 ^ k % 2) (b / 2 ^ k % 2)
xor-bit a b k =
    ap (λ (x : ℕ). x % 2) (xor_shr a b k ∙ xor_step (a / 2 ^ k) (b / 2 ^ k))
    ∙ digits_mod (bit_xor (a / 2 ^ k / 2) (b / 2 ^ k / 2)) (differ-lt (a / 2 ^ k % 2) (b / 2 ^ k % 2) (bit-lt a k) (bit-lt b k))
  where
    differ-lt : (x y : ℕ) → x < 2 → y < 2 → differ x y < 2
    differ-lt zero y hx hy = hy
    differ-lt (suc x) zero hx hy = hx
    differ-lt (suc zero) (suc zero) hx hy = omega arith
    differ-lt (suc zero) (suc (suc y)) hx hy = absurd (omega arith)
    differ-lt (suc (suc x)) (suc y) hx hy = absurd (omega arith)

bit-off : (a k : ℕ) → ¬ (Has a k) → a / 2 ^ k % 2 ≡ 0
bit-off a k n = go (ℕ_discrete (a / 2 ^ k % 2) 1)
  where
    go : Dec (a / 2 ^ k % 2 ≡ 1) → a / 2 ^ k % 2 ≡ 0
    go (yes e) = absurd (n (record { bit = e }))
    go (no e) = omega (arith, bit-lt a k)

-- the bits that it has
pub less-has : (a b k : ℕ) → Has a k → ¬ (Has b k) → Has (less a b) k
less-has a b k h n = record { bit = xor-bit a (bit_and a b) k ∙ ap₂ differ h.bit (bit-off (bit_and a b) k (λ x. n (and_right a b k x))) }

-- and no other
pub has-less : (a b k : ℕ) → Has (less a b) k → Has a k × ¬ (Has b k)
has-less a b k h = go (has? a k) (has? b k)
  where
    digit : differ (a / 2 ^ k % 2) (bit_and a b / 2 ^ k % 2) ≡ 1
    digit = sym (xor-bit a (bit_and a b) k) ∙ h.bit

    go : Dec (Has a k) → Dec (Has b k) → Has a k × ¬ (Has b k)
    go (yes x) (no y) = (x, y)
    go (yes x) (yes y) = absurd (omega (arith, sym digit ∙ ap₂ differ x.bit (and-has a b k x y).bit))
    go (no x) y = absurd (omega (arith, sym digit ∙ ap₂ differ (bit-off a k x) (bit-off (bit_and a b) k (λ z. x (and_left a b k z)))))

-- what the one has and the other has not
pub zipped-without : {s t r : List ℕ} {n : ℕ} → Zipped less s t n r → room ≤ n → Without s t r
zipped-without {s} {t} z l = record {
  has = λ x lx h k. word-zipped z l x lx (less-has (get_or s (x / 64) 0) (get_or t (x / 64) 0) _ h k);
  left = λ x h. (has-less (get_or s (x / 64) 0) (get_or t (x / 64) 0) _ (zipped-word z l x h)).0;
  right = λ x h. (has-less (get_or s (x / 64) 0) (get_or t (x / 64) 0) _ (zipped-word z l x h)).1;
}

-- ---- all numbers below n

-- the first h words of r have the bits of the numbers below n
pub record Lows (n h : ℕ) (r : List ℕ) : Type 0 where
  pub len : length r ≡ room
  pub words : (j : ℕ) → j < h → get_or r j 0 ≡ low_bits (n - j * 64)

-- before the first word
pub lows-none : (n : ℕ) (r : List ℕ) → length r ≡ room → Lows n 0 r
lows-none n r e = record { len = e; words = λ j l. absurd (omega arith) }

-- one word more
pub lows-more : {n h v left : ℕ} {r : List ℕ} → Lows n h r → h < room → left ≡ n - h * 64 → v ≡ low_bits left → Lows n (h + 1) (set r h v)
lows-more {n} {h} {v} {left} {r} z l q e = record { len = length-set r h v ∙ z.len; words = λ j lj. go j lj (ℕ_discrete j h) }
  where
    go : (j : ℕ) → j < h + 1 → Dec (j ≡ h) → get_or (set r h v) j 0 ≡ low_bits (n - j * 64)
    go j lj (yes p) = rw p (get_or-set_same r h v 0 (omega (arith, z.len)) ∙ e ∙ ap low_bits q)
    go j lj (no p) = get_or-set_other r h j v 0 p ∙ z.words j (omega arith)

-- after the last word
pub lows-done : {n h : ℕ} {r : List ℕ} → Lows n h r → room ≤ h → n ≤ 64 * room → AllBelow n r
lows-done {n} {r = r} z l small = record {
  has = λ x lx. moved (sym (z.words (x / 64) (omega arith))) (low-has (n - x / 64 * 64) (x % 64) (omega arith) (omega arith));
  only = λ x h. omega (arith, has-low (n - x / 64 * 64) (x % 64) (moved (z.words (x / 64) (omega (arith, row_room r z.len x h))) h));
}

-- ---- the lowest bit

-- a word's lowest bit is the one past its trailing zeros
pub trailing-has : (w n : ℕ) → count_trailing_zeros w n < w → Has n (count_trailing_zeros w n)
unfolding count_trailing_zeros
trailing-has zero n h = absurd (omega arith)
trailing-has (suc w) n h = go (n % 2) refl (trailing-has w (n / 2)) h
  where
    go : (d : ℕ) → n % 2 ≡ d → (count_trailing_zeros w (n / 2) < w → Has (n / 2) (count_trailing_zeros w (n / 2))) → under d (count_trailing_zeros w (n / 2)) < suc w
        → Has n (under d (count_trailing_zeros w (n / 2)))
    go zero e f l = half-has n (count_trailing_zeros w (n / 2)) (f (omega arith))
    go (suc d) e f l = record { bit = ap (λ (x : ℕ). x % 2) (div-one n) ∙ omega arith }

-- and none of those is set
pub trailing-none : (w n k : ℕ) → k < count_trailing_zeros w n → ¬ (Has n k)
unfolding count_trailing_zeros
trailing-none zero n k l h = absurd (omega arith)
trailing-none (suc w) n k l h = go (n % 2) refl k l h (trailing-none w (n / 2))
  where
    go : (d : ℕ) → n % 2 ≡ d → (k : ℕ) → k < under d (count_trailing_zeros w (n / 2)) → Has n k → ((j : ℕ) → j < count_trailing_zeros w (n / 2) → ¬ (Has (n / 2) j)) → ⊥
    go zero e zero l h f = omega (arith, ap (λ (x : ℕ). x % 2) (div-one n), h.bit)
    go zero e (suc k) l h f = f k (omega arith) (has-half n k h)
    go (suc d) e k l h f = omega arith

-- the first h words of the row have no bit
abbrev pub NoneBelow : List ℕ → ℕ → Type 0
NoneBelow r h = (x : ℕ) → x < h * 64 → ¬ (RowHas r x)

-- one word more has none
pub none_more : (r : List ℕ) (h : ℕ) → NoneBelow r h → 64 ≤ count_trailing_zeros 64 (get_or r h 0) → NoneBelow r (h + 1)
none_more r h f l x lx b = go (dec_lt x (h * 64))
  where
    go : Dec (x < h * 64) → ⊥
    go (yes y) = f x y b
    go (no y) =
        let e : x / 64 ≡ h = omega arith in
        trailing-none 64 (get_or r h 0) (x % 64) (omega arith) (at_place r e b)

-- the lowest bit of the first word that has one
pub least-here : (r : List ℕ) (h : ℕ) → h < room → NoneBelow r h → count_trailing_zeros 64 (get_or r h 0) < 64 → Least r (h * 64 + count_trailing_zeros 64 (get_or r h 0))
least-here r h s f l = record {
  within = omega (arith, l);
  found = λ y. at_place r (sym word) (at-bit (sym bit) (trailing-has 64 (get_or r h 0) l));
  least = λ x lx b. go x lx b (dec_lt x (h * 64));
}
  where
    t : ℕ
    t = count_trailing_zeros 64 (get_or r h 0)

    word : (h * 64 + t) / 64 ≡ h
    word = omega arith

    bit : (h * 64 + t) % 64 ≡ t
    bit = omega arith

    go : (x : ℕ) → x < h * 64 + t → RowHas r x → Dec (x < h * 64) → ⊥
    go x lx b (yes y) = f x y b
    go x lx b (no y) =
        let e : x / 64 ≡ h = omega arith in
        trailing-none 64 (get_or r h 0) (x % 64) (omega arith) (at_place r e b)

-- no word has one
pub least-none : (r : List ℕ) (h : ℕ) → NoneBelow r h → room ≤ h → Least r (64 * room)
least-none r h f l = record { within = omega arith; found = λ y. absurd (omega arith); least = λ x lx. f x (omega arith) }

-- ---- the next bit

-- the lowest bit from k on
pub lowest-is : (w k : ℕ) → LowestBit w k (k + count_trailing_zeros 64 (w / 2 ^ k))
lowest-is w k = record {
  from = omega arith;
  found = λ l. shift-has w k (trailing-has 64 (w / 2 ^ k) (omega arith));
  least = λ j h l b.
      let e : j ≡ k + (j - k) = omega arith in
      let d : j - k < count_trailing_zeros 64 (w / 2 ^ k) = omega arith in
      trailing-none 64 (w / 2 ^ k) (j - k) d (has-shift w k (at-bit e b));
}

-- no number from x on that is below `at` is in the row
abbrev pub NoneFrom : List ℕ → ℕ → ℕ → Type 0
NoneFrom r x at = (z : ℕ) → x ≤ z → z < at → ¬ (RowHas r z)

-- nor is one up to the lowest bit of word h from its bit j on
none-word : (r : List ℕ) (x h j k : ℕ) → NoneFrom r x (h * 64 + j) → LowestBit (get_or r h 0) j k → NoneFrom r x (h * 64 + min k 64)
none-word r x h j k f low z hz lz b = go (dec_lt z (h * 64 + j))
  where
    go : Dec (z < h * 64 + j) → ⊥
    go (yes y) = f z hz y b
    go (no y) =
        let e : z / 64 ≡ h = omega arith in
        low.least (z % 64) (omega arith) (omega arith) (at_place r e b)

-- nor is one of the word, if it has no bit from j on
pub none-past : (r : List ℕ) (x h j k n : ℕ) → NoneFrom r x (h * 64 + j) → LowestBit (get_or r h 0) j k → 64 ≤ k → n ≤ 64 → NoneFrom r x (h * 64 + n)
none-past r x h j k n f low hk l z hz lz b = none-word r x h j k f low z hz (omega arith) b

-- the lowest bit of the first word that has one
pub next_here : (r : List ℕ) (x h j count k y : ℕ) → NoneFrom r x (h * 64 + j) → LowestBit (get_or r h 0) j k → x ≤ h * 64 + j → x ≤ count → k < 64 → y ≡ min (h * 64 + k) count
    → Next r x count y
next_here r x h j count k y f low hx hc l e = record {
  from = omega (arith, low.from);
  within = omega arith;
  found = λ ly.
      let word : h ≡ y / 64 = omega arith in
      let bit : k ≡ y % 64 = omega arith in
      at_place r word (at-bit bit (low.found l));
  least = λ z hz lz b. none-word r x h j k f low z hz (omega arith) b;
}

-- no word has one
pub next-none : (r : List ℕ) (x at count : ℕ) → NoneFrom r x at → x ≤ count → count ≤ at → Next r x count count
next-none r x at count f h l = record { from = h; within = omega arith; found = λ y. absurd (omega arith); least = λ z hz lz. f z hz (omega arith) }

-- ---- no bit, and the test of one

-- words that are all 0 have no bit
pub empty-zero : Empty (zeros room)
empty-zero = record { len = refl; none = λ x h. zero-none (moved (zero_word room (x / 64)) h) }

-- the test of a bit decides
pub decides-has : {b : Bool} (w k : ℕ) → b ≡ hasb w k → Decides b (Has w k)
decides-has w k e = record { holds = λ t. hasb-has w k (sym e ∙ t); fails = λ t. hasb-not w k (sym e ∙ t) }
