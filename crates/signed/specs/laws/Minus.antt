-- Minus a number. Assumes nothing.
use Rattle.std.specs.Prelude.{◌≡◌, ℕ, zero, suc, ◌<◌, pos, neg_ℤ, ◌-ℤ◌}
use Rattle.std.proofs.Common.{sym, subst, arith, SFits}
use Rattle.std.proofs.Math.IntN.{+ℤ_idl}
use Rattle.std.specs.Int.{w64}

-- it is what is subtracted from 0
pub minus_is : (n : ℕ) → pos 0 -ℤ pos n ≡ neg_ℤ (pos n)
minus_is n = +ℤ_idl (neg_ℤ (pos n))

-- and fits a signed word
pub minus-fits : (n : ℕ) → n < 1000000000 → SFits w64 (pos 0 -ℤ pos n)
minus-fits n h = subst (SFits w64) (sym (minus_is n)) (small n h)
  where
    small : (k : ℕ) → k < 1000000000 → SFits w64 (neg_ℤ (pos k))
    small zero l = record { sfits = omega arith }
    small (suc k) l = record { sfits = omega arith }
