-- Laws of a row that takes on, or loses, a row of the list of words. Assumes nothing.
use Rattle.std.specs.Prelude.{◌≡◌, refl, ◌⊎◌, List, ℕ, ◌+◌, ◌*◌, ◌/◌, ◌%◌, ◌≤◌, ◌<◌, get_or, set}
use Rattle.std.proofs.Common.{sym, ◌∙◌, arith, length-set, get_or-set_same, get_or-set_other}
use Rattle.std.proofs.Math.Logic.{inl, inr, ⊎_elim}
use Rattle.std.proofs.Math.Decide.{ℕ_discrete, dec_lt}
use Rattle.std.specs.Int.Bits.{bit_or, bit_and, bit_xor}
use Rattle.row.specs.Bit.{Has}
use Rattle.row.specs.own.Row.{RowHas}
use Rattle.row.specs.own.Pick.{room, Together}
use Rattle.row.specs.own.Change.{TakenOff, TakenOn, take_off, take_on}
use Rattle.row.specs.laws.Bit.{moved, zero-none, has-or, or_left, or_right}
use Rattle.row.specs.laws.Rows.{zero_word, zeros}
use Rattle.row.specs.laws.Mapped.{mapped-part}
use Rattle.row.specs.laws.Pick.{has-less, less-has}

-- before the first word
pub together-none : (s r : List ℕ) (from : ℕ) → Together s from 0 r (zeros room)
together-none s r from = record { len = refl; words = λ h l. absurd (omega arith); rest = λ h l. zero_word room h }

-- one word more
pub together-more : {s r t : List ℕ} {from h v : ℕ} → Together s from h r t → h < room → v ≡ bit_or (get_or r h 0) (get_or s (from + h) 0) → Together s from (h + 1) r (set t h v)
together-more {s} {r} {t} {from} {h} {v} g l e = record {
  len = length-set t h v ∙ g.len;
  words = λ j lj. go j lj (ℕ_discrete j h);
  rest = λ j lj. get_or-set_other t h j v 0 (λ q. omega arith) ∙ g.rest j (omega arith);
}
  where
    go : (j : ℕ) → j < h + 1 → Dec (j ≡ h) → get_or (set t h v) j 0 ≡ bit_or (get_or r j 0) (get_or s (from + j) 0)
    go j lj (yes p) = rw p (get_or-set_same t h v 0 (omega (arith, g.len)) ∙ e)
    go j lj (no p) = get_or-set_other t h j v 0 p ∙ g.words j (omega arith)

-- after the last word
pub together-done : {s r t : List ℕ} {from h width : ℕ} → Together s from h r t → h ≤ width → width ≤ h → Together s from width r t
together-done g a b = record { len = g.len; words = λ j l. g.words j (omega arith); rest = λ j l. g.rest j (omega arith) }

-- its bits
pub together-has : {s r t : List ℕ} {from width : ℕ} → Together s from width r t → (x : ℕ) → RowHas t x → (x < 64 * width) × (RowHas r x ⊎ Has (get_or s (from + x / 64) 0) (x % 64))
together-has {s} {r} {t} {from} {width} g x h = go (dec_lt (x / 64) width)
  where
    go : Dec (x / 64 < width) → (x < 64 * width) × (RowHas r x ⊎ Has (get_or s (from + x / 64) 0) (x % 64))
    go (yes l) = (omega arith, has-or _ _ _ (moved (g.words (x / 64) l) h))
    go (no l) = absurd (zero-none (moved (g.rest (x / 64) (omega arith)) h))

-- and the other way
pub has-together : {s r t : List ℕ} {from width : ℕ} → Together s from width r t → (x : ℕ) → x < 64 * width → RowHas r x ⊎ Has (get_or s (from + x / 64) 0) (x % 64) → RowHas t x
has-together {s} {r} {t} {from} {width} g x l d = moved (sym (g.words (x / 64) (omega arith))) (⊎_elim (or_left (get_or r (x / 64) 0) _ _) (or_right (get_or r (x / 64) 0) _ _) d)

-- ---- a row that takes on another in place

-- the word that takes on another
pub take_on-or : (s : List ℕ) (from i w : ℕ) → bit_or w (get_or s (from + i) 0) ≡ take_on s from i w
unfolding take_on
take_on-or s from i w = refl

module _ {s p t : List ℕ} {from width : ℕ} (d : TakenOn s from width p t) where
  -- its bits
  pub taken-has : (x : ℕ) → RowHas t x → RowHas p x ⊎ ((x < 64 * width) × Has (get_or s (from + x / 64) 0) (x % 64))
  unfolding take_on
  taken-has x h = go (dec_lt (x / 64) width)
    where
      go : Dec (x / 64 < width) → RowHas p x ⊎ ((x < 64 * width) × Has (get_or s (from + x / 64) 0) (x % 64))
      go (yes l) = ⊎_elim inl (λ z. inr (omega arith, z)) (has-or _ _ _ (moved (d.mapped.inside (x / 64) (omega arith) l) h))
      go (no l) = inl (moved (d.mapped.above (x / 64) (omega arith)) h)

  -- what it had
  pub taken-keeps : (x : ℕ) → RowHas p x → RowHas t x
  unfolding take_on
  taken-keeps x h = mapped-part d.mapped (λ i w k z. or_left w (get_or s (from + i) 0) k z) (x / 64) (x % 64) h

  -- what it gets
  pub taken-gets : (x : ℕ) → x < 64 * width → Has (get_or s (from + x / 64) 0) (x % 64) → RowHas t x
  unfolding take_on
  taken-gets x l h = moved (sym (d.mapped.inside (x / 64) (omega arith) (omega arith))) (or_right (get_or p (x / 64) 0) _ _ h)

-- ---- a row that loses another in place

-- the word that loses another
pub take-off : (s : List ℕ) (from i w : ℕ) → bit_xor w (bit_and w (get_or s (from + i) 0)) ≡ take_off s from i w
unfolding take_off
take-off s from i w = refl

module _ {s p t : List ℕ} {from width : ℕ} (d : TakenOff s from width p t) where
  -- its bits
  pub lost-has : (x : ℕ) → RowHas t x → RowHas p x × (x < 64 * width → ¬ (Has (get_or s (from + x / 64) 0) (x % 64)))
  unfolding take_off
  lost-has x h = go (dec_lt (x / 64) width)
    where
      go : Dec (x / 64 < width) → RowHas p x × (x < 64 * width → ¬ (Has (get_or s (from + x / 64) 0) (x % 64)))
      go (yes l) = let z = has-less (get_or p (x / 64) 0) (get_or s (from + x / 64) 0) (x % 64) (moved (d.mapped.inside (x / 64) (omega arith) l) h) in (z.0, λ lx. z.1)
      go (no l) = (moved (d.mapped.above (x / 64) (omega arith)) h, λ lx. absurd (omega arith))

  -- what it keeps
  pub lost-keeps : (x : ℕ) → RowHas p x → (x < 64 * width → ¬ (Has (get_or s (from + x / 64) 0) (x % 64))) → RowHas t x
  unfolding take_off
  lost-keeps x h f = go (dec_lt (x / 64) width)
    where
      go : Dec (x / 64 < width) → RowHas t x
      go (yes l) = moved (sym (d.mapped.inside (x / 64) (omega arith) l)) (less-has (get_or p (x / 64) 0) (get_or s (from + x / 64) 0) (x % 64) h (f (omega arith)))
      go (no l) = moved (sym (d.mapped.above (x / 64) (omega arith))) h
