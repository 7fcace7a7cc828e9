-- Laws of the test whether two rows have a number in common. Assumes nothing.
use Rattle.std.specs.Prelude.{◌≡◌, List, ℕ, ◌+◌, ◌*◌, ◌/◌, ◌%◌, ◌^◌, ◌<◌, get_or}
use Rattle.std.proofs.Common.{sym, ap, arith}
use Rattle.std.proofs.Math.Decide.{dec_lt}
use Rattle.std.specs.Int.Bits.{bit_and}
use Rattle.std.specs.Int.Count.{count_trailing_zeros}
use Rattle.row.specs.Bit.{Has}
use Rattle.row.specs.own.Pick.{Shared}
use Rattle.row.specs.laws.Bit.{and-has, and_left, and_right, at-bit, at_place, has-lt, moved, no_bits, zero-none}
use Rattle.row.specs.laws.Pick.{trailing-has, trailing-none}

-- a word that is not 0 has a bit
some-bit : (w : ℕ) → w < 2 ^ 64 → ¬ (w ≡ 0) → Has w (count_trailing_zeros 64 w)
some-bit w h z = go (dec_lt (count_trailing_zeros 64 w) 64)
  where
    go : Dec (count_trailing_zeros 64 w < 64) → Has w (count_trailing_zeros 64 w)
    go (yes l) = trailing-has 64 w l
    go (no l) = absurd (z (no_bits 64 w h (λ k lk. trailing-none 64 w k (omega arith))))

module _ (s p : List ℕ) (from h : ℕ) where
  -- word h of both rows
  abbrev pub common : ℕ
  common = bit_and (get_or s (from + h) 0) (get_or p h 0)

  -- it has no bit: there is none up to the next word
  pub shared-skip : ¬ (Shared s from h p) → common ≡ 0 → ¬ (Shared s from (h + 1) p)
  shared-skip f e d = go (dec_lt d.number (64 * h))
    where
      go : Dec (d.number < 64 * h) → ⊥
      go (yes l) = f (record { number = d.number; inside = l; here = d.here; there = d.there })
      go (no l) =
          let q : d.number / 64 ≡ h = omega (arith, d.inside) in
          zero-none (moved e (and-has _ _ _ (at_place s (ap (λ (j : ℕ). from + j) q) d.here) (at_place p q d.there)))

  -- it has one
  pub shared-here : {width : ℕ} → h < width → common < 2 ^ 64 → ¬ (common ≡ 0) → Shared s from width p
  shared-here l small z = record {
    number = h * 64 + k;
    inside = omega (arith, lk);
    here = at_place s (ap (λ (j : ℕ). from + j) (sym word)) (at-bit (sym bit) (and_left _ _ k x));
    there = at_place p (sym word) (at-bit (sym bit) (and_right (get_or s (from + h) 0) _ k x));
  }
    where
      k : ℕ
      k = count_trailing_zeros 64 common

      x : Has common k
      x = some-bit common small z

      lk : k < 64
      lk = has-lt 64 small x

      word : (h * 64 + k) / 64 ≡ h
      word = omega (arith, lk)

      bit : (h * 64 + k) % 64 ≡ k
      bit = omega (arith, lk)
