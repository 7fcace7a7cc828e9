-- Laws of the tests for stray bits. Assumes nothing.
use Rattle.std.specs.Prelude.{◌≡◌, Bool, cond, List, ℕ, ◌+◌, ◌-◌, ◌*◌, ◌/◌, ◌%◌, ◌^◌, ◌≤◌, ◌<◌, ltb, get_or}
use Rattle.std.proofs.Common.{sym, ap, ◌∙◌, subst, lt_of_le_of_lt, arith, lt-ltb, le-ltb, shr-shr}
use Rattle.std.proofs.Math.Nat.{zero-div}
use Rattle.std.proofs.Math.Decide.{dec_lt}
use Rattle.std.proofs.lemmas.Nat.{shr_le}
use Rattle.logic.specs.own.Decides.{Decides}
use Rattle.logic.specs.laws.Decides.{decides-iff}
use Rattle.row.specs.Bit.{Has}
use Rattle.inspect.specs.own.Below.{RowBelow, RowsBelow, WordBelow}
use Rattle.row.specs.laws.Bit.{at_place, has-lt, no_bits, shift-has}

-- a word of 64 bits has none from 64 on
pub below_all : (w n : ℕ) → w < 2 ^ 64 → 64 ≤ n → WordBelow w n
below_all w n h l k x = omega (arith, has-lt 64 h x)

-- no bit from n on, as the test asks it
pub shift-below : (w n : ℕ) → w / 2 ^ n ≡ 0 → WordBelow w n
shift-below w n e k x = go (dec_lt k n)
  where
    go : Dec (k < n) → k < n
    go (yes l) = l
    go (no l) =
        let d : k ≡ n + (k - n) = omega arith in
        let z : w / 2 ^ k ≡ 0 = ap (λ (y : ℕ). w / 2 ^ y) d ∙ sym (shr-shr w n (k - n)) ∙ ap (λ (y : ℕ). y / 2 ^ (k - n)) e ∙ zero-div (2 ^ (k - n)) in
        absurd (omega (arith, x.bit, ap (λ (y : ℕ). y % 2) z))

-- and the other way round, for a word of 64 bits
pub below-shift : (w n : ℕ) → w < 2 ^ 64 → WordBelow w n → w / 2 ^ n ≡ 0
below-shift w n h f = no_bits 64 (w / 2 ^ n) (lt_of_le_of_lt (shr_le w n) h) (λ k l x. absurd (omega (arith, f (n + k) (shift-has w n x))))

-- a row with no bit: its words are 0
pub below_none : (s : List ℕ) (at n h : ℕ) → RowBelow s at n 0 → h < n → get_or s (at + h) 0 < 2 ^ 64 → get_or s (at + h) 0 ≡ 0
below_none s at n h f l w = no_bits 64 (get_or s (at + h) 0) w (λ k lk x. absurd (omega (arith, f h l k x)))

-- word h of a row has bits below n, as a word with what is left of n
pub word_row : (w n h : ℕ) → WordBelow w (n - h * 64) → (k : ℕ) → Has w k → h * 64 + k < n
word_row w n h f k x = omega (arith, f k x)

-- and the other way round
pub row_word : (w n h : ℕ) → ((k : ℕ) → Has w k → h * 64 + k < n) → WordBelow w (n - h * 64)
row_word w n h f k x = omega (arith, f k x)

-- below n, if x is below m, and else below nothing
pub below_both : (x m b n : ℕ) → b < cond (ltb x m) n 0 → (x < m) × (b < n)
below_both x m b n l = go (dec_lt x m)
  where
    go : Dec (x < m) → (x < m) × (b < n)
    go (yes h) = (h, rw (lt-ltb x m h) at l)
    go (no h) = absurd (omega (arith, rw (le-ltb x m (omega arith)) at l))

-- and the other way round
pub both_below : (x m b n : ℕ) → x < m → b < n → b < cond (ltb x m) n 0
both_below x m b n h l = rw (lt-ltb x m h) l

-- word h of a row, in the loop over its words
pub row_step : (w n h : ℕ) {left : ℕ} {r : Bool} → left ≡ n - h * 64 → Decides r (WordBelow w left) → Decides r ((k : ℕ) → Has w k → h * 64 + k < n)
row_step w n h {r = r} e d = decides-iff (word_row w n h) (row_word w n h) (subst (λ (i : ℕ). Decides r (WordBelow w i)) e d)

-- row x of a part, in the loop over its rows
pub rows_step : (s : List ℕ) (from width rows bits x : ℕ) {at n : ℕ} {r : Bool} → at ≡ from + x * width → n ≡ cond (ltb x rows) bits 0 → Decides r (RowBelow s at width n)
    → Decides r ((h : ℕ) → h < width → (k : ℕ) → Has (get_or s (from + x * width + h) 0) k → (x < rows) × (h * 64 + k < bits))
rows_step s from width rows bits x {at} {n} e o d = decides-iff
    (λ f h l k y. below_both x rows (h * 64 + k) bits (rw o at (f h l k (at_place s (omega arith) y))))
    (λ f h l k y. let q = f h l k (at_place s (omega arith) y) in rw o (both_below x rows (h * 64 + k) bits q.0 q.1))
    d

-- block r, in the loop over the blocks
pub blocks_step : (s : List ℕ) (from width used n r : ℕ) {at rows : ℕ} {b : Bool} → at ≡ from + r * (64 * width * width) → rows ≡ cond (ltb r used) n 0
    → Decides b (RowsBelow s at (64 * width) width rows n)
    → Decides b ((x : ℕ) → x < 64 * width → (h : ℕ) → h < width → (k : ℕ) → Has (get_or s (from + r * (64 * width * width) + x * width + h) 0) k → (r < used) × (x < n) × (h * 64 + k < n))
blocks_step s from width used n r {at} {rows} e o d = decides-iff
    (λ f x lx h l k y. let q = f x lx h l k (at_place s (omega arith) y) in let z = below_both r used x n (rw o at q.0) in (z.0, z.1, q.1))
    (λ f x lx h l k y. let q = f x lx h l k (at_place s (omega arith) y) in (rw o (both_below r used x n q.0 q.1), q.2))
    d
