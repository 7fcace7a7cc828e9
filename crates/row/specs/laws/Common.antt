-- Laws of how many numbers two rows have in common. Assumes nothing.
use Rattle.std.specs.Prelude.{◌≡◌, ◌⊎◌, List, ℕ, ◌+◌, ◌*◌, ◌/◌, ◌%◌, ◌^◌, ◌≤◌, ◌<◌, get_or}
use Rattle.std.proofs.Common.{ap, inl, inr, arith}
use Rattle.std.proofs.Math.Decide.{dec_lt}
use Rattle.std.specs.Int.Bits.{bit_and}
use Rattle.std.specs.Int.Count.{ones}
use Rattle.logic.specs.Number.{Number}
use Rattle.logic.specs.laws.Number.{number-below, number-iff, number-le, number-map, number-none, number-or}
use Rattle.row.specs.Bit.{Has}
use Rattle.row.specs.own.Pick.{InBoth}
use Rattle.row.specs.laws.Bit.{and-has, and_left, and_right, at-bit, at_place, has-lt}
use Rattle.row.specs.laws.Count.{word_number}

-- before the first word
pub common-none : (s p : List ℕ) (from : ℕ) → Number (InBoth s from 0 p) 0
common-none s p from = number-none (λ x b. omega (arith, b.inside))

-- no more numbers than bits
pub common-le : {s p : List ℕ} {from h n : ℕ} → Number (InBoth s from h p) n → n ≤ 64 * h
common-le {h = h} a = number-le (λ x b. b.inside) a (number-below (64 * h))

-- one word more
pub common-more : {s p : List ℕ} {from h n : ℕ} → Number (InBoth s from h p) n → bit_and (get_or s (from + h) 0) (get_or p h 0) < 2 ^ 64
    → Number (InBoth s from (h + 1) p) (n + ones (bit_and (get_or s (from + h) 0) (get_or p h 0)))
common-more {s} {p} {from} {h} {n} a small = number-iff to back (number-or apart a there)
  where
    word : ℕ
    word = bit_and (get_or s (from + h) 0) (get_or p h 0)

    Here : ℕ → Type 0
    Here x = (k : ℕ) × Has word k × (x ≡ 64 * h + k)

    there : Number Here (ones word)
    there = number-map (λ k. 64 * h + k) (λ i j b d e. omega arith) (word_number 64 word small)

    apart : (x : ℕ) → InBoth s from h p x → ¬ (Here x)
    apart x b d = omega (arith, b.inside, d.2)

    to : (x : ℕ) → InBoth s from h p x ⊎ Here x → InBoth s from (h + 1) p x
    to x (inl b) = record { inside = omega (arith, b.inside); here = b.here; there = b.there }
    to x (inr d) =
        let lk = has-lt 64 small d.1 in
        let w : h ≡ x / 64 = omega (arith, d.2, lk) in
        let b : d.0 ≡ x % 64 = omega (arith, d.2, lk) in
        record {
          inside = omega (arith, d.2, lk);
          here = at_place s (ap (λ (i : ℕ). from + i) w) (at-bit b (and_left _ _ _ d.1));
          there = at_place p w (at-bit b (and_right (get_or s (from + h) 0) _ _ d.1));
        }

    back : (x : ℕ) → InBoth s from (h + 1) p x → InBoth s from h p x ⊎ Here x
    back x b = go (dec_lt x (64 * h))
      where
        go : Dec (x < 64 * h) → InBoth s from h p x ⊎ Here x
        go (yes l) = inl (record { inside = l; here = b.here; there = b.there })
        go (no l) =
            let w : x / 64 ≡ h = omega (arith, b.inside) in
            inr (x % 64, and-has _ _ _ (at_place s (ap (λ (i : ℕ). from + i) w) b.here) (at_place p w b.there), omega arith)

-- after the last word
pub common-done : {s p : List ℕ} {from h width n : ℕ} → Number (InBoth s from h p) n → h ≤ width → width ≤ h → Number (InBoth s from width p) n
common-done a l m =
    number-iff (λ x b. record { inside = omega (arith, b.inside); here = b.here; there = b.there }) (λ x b. record { inside = omega (arith, b.inside); here = b.here; there = b.there }) a
