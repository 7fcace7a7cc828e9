-- Eight bytes tested at a time. Assumes nothing.
use Rattle.std.specs.Prelude.{◌≡◌, ℕ, zero, suc, ◌+◌, ◌-◌, ◌*◌, ◌/◌, ◌%◌, ◌<◌, ◌≤◌, List, length, ◌≢◌, bit_and, bit_or, slice_index, slice_index_or, refl}
use Rattle.std.proofs.Common.{sym, ap, ◌∙◌, arith}
use Rattle.std.proofs.Math.Decide.{dec_lt}
use Rattle.std.proofs.lemmas.Nat.{and_mask, trailing_le}
use Rattle.std.specs.Int.Count.{count_trailing_zeros}
use Rattle.text.specs.own.Split.{part_of}
use Rattle.row.specs.Bit.{Has}
use Rattle.row.specs.laws.Bit.{and-has, at-bit, low-all, low-has, moved, or_left, or_right, shift-has, zero-none}
use Rattle.row.specs.laws.Pick.{trailing-none}
use Rattle.text.specs.own.Chunk.{low, Bytes}
use Rattle.text.specs.laws.Chunk.{low_step}
use Rattle.reader.specs.own.Scan.{Masks, Plain, Skips, byte_of}

-- n bytes of 1, of 159 under a 1, and of 128
unfoldable pub ones : ℕ → ℕ
ones zero = 0
ones (suc n) = 1 + 256 * ones n

unfoldable pub nines : ℕ → ℕ
nines zero = 1
nines (suc n) = 159 + 256 * nines n

unfoldable pub tops : ℕ → ℕ
tops zero = 0
tops (suc n) = 128 + 256 * tops n

-- none of the three sums has the top bit of byte i
pub record Quiet (n x i : ℕ) : Type 0 where
  pub own : ¬ (Has x (8 * i + 7))
  pub over : ¬ (Has (x + ones n) (8 * i + 7))
  pub under : ¬ (Has (nines n - x) (8 * i + 7))

-- a bit eight places up
up : (x y i : ℕ) → y ≡ x / 256 → Has y (8 * i + 7) → Has x (8 * suc i + 7)
up x y i e h =
    let z : 8 + (8 * i + 7) ≡ 8 * suc i + 7 = omega arith in
    at-bit z (shift-has x 8 (moved e h))

low-own : (x : ℕ) → ¬ (Has x 7) → x % 256 < 128
low-own x f = go (dec_lt (x % 256) 128)
  where
    go : Dec (x % 256 < 128) → x % 256 < 128
    go (yes h) = h
    go (no h) = absurd (f (record { bit = omega arith }))

-- the lowest byte
first_plain : (n x : ℕ) → x ≤ nines (suc n) → Quiet (suc n) x 0 → (32 ≤ x % 256) × (x % 256 ≤ 126)
unfolding ones nines
first_plain n x h q =
    let a = low-own x q.own in
    let b = low-own (x + (1 + 256 * ones n)) q.over in
    let d = low-own (159 + 256 * nines n - x) q.under in
    (omega arith, omega arith)

-- the bytes above it
rest-quiet : (n x i : ℕ) → x ≤ nines (suc n) → x % 256 ≤ 126 → Quiet (suc n) x (suc i) → Quiet n (x / 256) i
unfolding ones nines
rest-quiet n x i h p q =
    record {
      own = λ b. q.own (up _ _ i refl b);
      over = λ b. q.over (up _ (x / 256 + ones n) i (omega arith) b);
      under = λ b. q.under (up _ (nines n - x / 256) i (omega arith) b);
    }

pub bytes-plain : (j n x : ℕ) → j < n → x ≤ nines n → ((i : ℕ) → i ≤ j → Quiet n x i) → (32 ≤ byte_of x j) × (byte_of x j ≤ 126)
unfolding byte_of nines
bytes-plain j zero x l h q = absurd (omega arith)
bytes-plain zero (suc n) x l h q = first_plain n x h (q 0 (omega arith))
bytes-plain (suc j) (suc n) x l h q =
    let p = first_plain n x h (q 0 (omega arith)) in
    bytes-plain j n (x / 256) (omega arith) (omega (arith, p.1)) (λ i k. rest-quiet n x i h p.1 (q (suc i) (omega arith)))

-- the mask has the top bits
tops-has : (n i : ℕ) → i < n → Has (tops n) (8 * i + 7)
unfolding tops
tops-has zero i h = absurd (omega arith)
tops-has (suc n) zero h = record { bit = omega arith }
tops-has (suc n) (suc i) h = up _ (tops n) i (omega arith) (tops-has n i (omega arith))

-- a sum that wraps has the same lowest 64 bits
wrapped : (v k : ℕ) → k < 64 → Has v k → Has (v % 18446744073709551616) k
wrapped v k l h = moved (and_mask v 64) (and-has v 18446744073709551615 k h (moved (sym (low-all 64 (omega arith))) (low-has 64 k l l)))

module _ (x a d m : ℕ) (small : x < 18446744073709551616) (over : a ≡ (x + 72340172838076673) % 18446744073709551616) (less : d < 18446744073709551616) (under : (d + x) % 18446744073709551616 ≡ 11502087481254191007) (is : m ≡ bit_and (bit_or (bit_or x a) d) 9259542123273814144) where
  back : d ≡ (29948831554963742623 - x) % 18446744073709551616
  back = omega arith

  quiet : (i : ℕ) → i < 8 → ¬ (Has m (8 * i + 7)) → Quiet 8 x i
  unfolding ones nines tops
  quiet i l f =
      let t = tops-has 8 i l in
      let k = 8 * i + 7 in
      record {
        own = λ b. f (moved (sym is) (and-has (bit_or (bit_or x a) d) 9259542123273814144 k (or_left (bit_or x a) d k (or_left x a k b)) t));
        over = λ b. f (moved (sym is) (and-has (bit_or (bit_or x a) d) 9259542123273814144 k (or_left (bit_or x a) d k (or_right x a k (moved (sym over) (wrapped (x + 72340172838076673) k (omega arith) b)))) t));
        under = λ b. f (moved (sym is) (and-has (bit_or (bit_or x a) d) 9259542123273814144 k (or_right (bit_or x a) d k (moved (sym back) (wrapped (29948831554963742623 - x) k (omega arith) b))) t));
      }

  tells : (j : ℕ) → j < 8 → ((i : ℕ) → i ≤ j → ¬ (Has m (8 * i + 7))) → (32 ≤ byte_of x j) × (byte_of x j ≤ 126)
  unfolding nines
  tells j l f = bytes-plain j 8 x l (omega arith) (λ i k. quiet i (omega arith) (f i k))

  plain-all : m ≡ 0 → Plain x 8
  plain-all e = record { most = omega arith; plain = λ j l. tells j l (λ i k h. zero-none (moved e h)) }

  plain-some : (m ≢ 0) → Plain x (count_trailing_zeros 64 m / 8)
  plain-some f =
      let t = trailing_le 64 m in
      record { most = omega arith; plain = λ j l. tells j (omega arith) (λ i k. trailing-none 64 m (8 * i + 7) (omega arith)) }

  pub masks : Masks x m
  masks = record { all = plain-all; some = plain-some }

-- ---- the bytes of a number that bytes made

low_byte : (n : ℕ) (s : List ℕ) (at j k : ℕ) → Bytes s → at + (k + n) ≤ length s → j < n → byte_of (low (part_of s (at + k) n)) j ≡ slice_index s (at + k + j)
unfolding byte_of
low_byte zero s at j k b h l = absurd (omega arith)
low_byte (suc n) s at zero k b h l =
    let e = low_step s at k n (omega arith) in
    let z : at + k + 0 ≡ at + k = omega arith in
    rw z (omega (arith, e, b (at + k)))
low_byte (suc n) s at (suc j) k b h l =
    let e = low_step s at k n (omega arith) in
    let q : low (part_of s (at + k) (suc n)) / 256 ≡ low (part_of s (at + (k + 1)) n) = omega (arith, e, b (at + k)) in
    let z : at + k + suc j ≡ at + (k + 1) + j = omega arith in
    rw (q, z) (low_byte n s at j (k + 1) b (omega arith) (omega arith))

-- several bytes more
pub skip-word : {s : List ℕ} {at i : ℕ} (v k : ℕ) → Skips s at i → Bytes s → i + 8 ≤ length s → v ≡ low (part_of s i 8) → Plain v k → Skips s at (i + k)
skip-word {s} {at} {i} v k z b h e p =
    record { low = omega (arith, z.low); high = omega (arith, p.most); plain = λ j l m. go j l m (dec_lt j i) }
  where
    go : (j : ℕ) → at ≤ j → j < i + k → Dec (j < i) → (32 ≤ slice_index s j) × (slice_index s j ≤ 126)
    go j l m (yes q) = z.plain j l q
    go j l m (no q) =
        let i0 : i ≡ i + 0 = omega arith in
        let at_j : i + 0 + (j - i) ≡ j = omega arith in
        let w : byte_of v (j - i) ≡ slice_index_or s j 0 =
        ap (λ (x : ℕ). byte_of x (j - i)) (e ∙ ap (λ (y : ℕ). low (part_of s y 8)) i0) ∙ low_byte 8 s i (j - i) 0 b (omega arith) (omega (arith, p.most)) ∙ ap (λ (y : ℕ). slice_index s y) at_j in
        let r = p.plain (j - i) (omega arith) in
        (omega (arith, w, r.0), omega (arith, w, r.1))
