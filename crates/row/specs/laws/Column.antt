-- Laws of a row that is gathered from one bit of many words. Assumes nothing.
use Rattle.std.specs.Prelude.{◌≡◌, List, [], ℕ, ◌+◌, ◌*◌, ◌/◌, ◌%◌, ◌≤◌, ◌<◌, length, get_or, set, replicate}
use Rattle.std.proofs.Common.{sym, ap, ◌∙◌, add-mul, mul-le-mul_right, arith, get_or-set_same, get_or-set_other}
use Rattle.std.proofs.Math.Decide.{ℕ_discrete}
use Rattle.row.specs.Bit.{Has}
use Rattle.row.specs.own.Row.{RowHas}
use Rattle.row.specs.own.Change.{gathered}
use Rattle.row.specs.own.Pick.{Marks, room}
use Rattle.row.specs.laws.Bit.{at_place, moved, zero-none}
use Rattle.row.specs.laws.Gather.{gathered-has, has-gathered}
use Rattle.row.specs.laws.Together.{together-none}

-- before the first word
pub column-none : {P : ℕ → Type 0} → Marks 0 (replicate room 0) P
column-none = record { sound = λ x h. absurd (zero-none (moved ((together-none [] [] 0).rest (x / 64) (omega arith)) h)); whole = λ x l p. absurd (omega arith) }

-- the words of a part of the numbers lie within those of all
pub column-within : (from x n count step len : ℕ) → x + n ≤ count → from + count * step < len + step → from + x * step + n * step < len + step
column-within from x n count step len l h = omega (arith, add-mul x n step, mul-le-mul_right step l)

-- n bits more: word h
pub column-more : {t : List ℕ} {k n v : ℕ} (s : List ℕ) (from step h : ℕ) → Marks (h * 64) t (λ y. Has (get_or s (from + y * step) 0) k) → length t ≡ room → n ≤ 64 → h < room → v ≡ gathered s (from + h * 64 * step) step k n
    → Marks (h * 64 + n) (set t h v) (λ y. Has (get_or s (from + y * step) 0) k)
column-more {t} {k} {n} {v} s from step h m len small l g = record { sound = λ y b. sound y b (ℕ_discrete (y / 64) h); whole = λ y ly b. whole y ly b (ℕ_discrete (y / 64) h) }
  where
    place : (y : ℕ) → y / 64 ≡ h → from + h * 64 * step + y % 64 * step ≡ from + y * step
    place y q =
        let d : y ≡ h * 64 + y % 64 = omega arith in
        omega (arith, add-mul (h * 64) (y % 64) step, ap (λ (z : ℕ). z * step) d)

    here : (y : ℕ) → y / 64 ≡ h → get_or (set t h v) (y / 64) 0 ≡ gathered s (from + h * 64 * step) step k n
    here y q = ap (λ (i : ℕ). get_or (set t h v) i 0) q ∙ get_or-set_same t h v 0 (omega arith) ∙ g

    sound : (y : ℕ) → RowHas (set t h v) y → Dec (y / 64 ≡ h) → (y < h * 64 + n) × Has (get_or s (from + y * step) 0) k
    sound y b (yes q) =
        let z = gathered-has s _ _ k n (y % 64) (moved (here y q) b) in
        (omega (arith, z.0), at_place s (place y q) z.1)
    sound y b (no q) = let z = m.sound y (moved (get_or-set_other t h (y / 64) v 0 q) b) in (omega (arith, z.0), z.1)

    whole : (y : ℕ) → y < h * 64 + n → Has (get_or s (from + y * step) 0) k → Dec (y / 64 ≡ h) → RowHas (set t h v) y
    whole y ly b (yes q) = moved (sym (here y q)) (has-gathered s _ _ k n (y % 64) (omega arith) (at_place s (sym (place y q)) b))
    whole y ly b (no q) = moved (sym (get_or-set_other t h (y / 64) v 0 q)) (m.whole y (omega arith) b)
