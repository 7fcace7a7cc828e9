-- Laws of bytes that are compared several at a time. Assumes nothing.
use Rattle.std.specs.Prelude.{◌≡◌, refl, Bool, true, false, List, [], ◌∷◌, ℕ, zero, suc, ◌+◌, ◌-◌, ◌*◌, ◌≤◌, ◌<◌, length, get_or, take, drop}
use Rattle.std.proofs.Common.{sym, ap, ◌∙◌, subst, arith, length-drop, drop-cons, drop-drop, get_or-drop, get_or-take, length-take-le, take-take}
use Rattle.std.proofs.Math.Decide.{ℕ_discrete}
use Rattle.std.proofs.Math.Seq.{take-nil}
use Rattle.text.specs.Bytes.{same}
use Rattle.text.specs.own.Split.{part_of}
use Rattle.text.specs.laws.Bytes.{same-all, same-off, same_true}
use Rattle.text.specs.laws.Choice.{le-cases}
use Rattle.text.specs.own.Chunk.{low, Bytes, Agree}

-- bytes that make one number are the same
pub low_same : (a b : List ℕ) → length a ≡ length b → ((i : ℕ) → i < length a → get_or a i 0 < 256) → ((i : ℕ) → i < length b → get_or b i 0 < 256) → low a ≡ low b → a ≡ b
unfolding low
low_same [] [] l f g e = refl
low_same [] (b ∷ t) l f g e = absurd (omega arith)
low_same (a ∷ s) [] l f g e = absurd (omega arith)
low_same (a ∷ s) (b ∷ t) l f g e =
    let p : a < 256 = f 0 (omega arith) in
    let q : b < 256 = g 0 (omega arith) in
    let h : a ≡ b = omega arith in
    let r : s ≡ t = low_same s t (omega arith) (λ i k. f (suc i) (omega arith)) (λ i k. g (suc i) (omega arith)) (omega arith) in
    rw (h, r)

-- one byte, and the rest
pub low_step : (s : List ℕ) (at k n : ℕ) → at + k < length s → low (part_of s (at + k) (suc n)) ≡ get_or s (at + k) 0 + 256 * low (part_of s (at + (k + 1)) n)
unfolding low
low_step s at k n h = let z : at + (k + 1) ≡ suc (at + k) = omega arith in rw (z, drop-cons s (at + k) 0)

pub low-none : (s : List ℕ) (at : ℕ) → low (part_of s at 0) ≡ 0
unfolding low
low-none s at = refl

module _ (s : List ℕ) (at : ℕ) where
  start : at ≡ at + 0
  start = omega arith

  pub low-four : at + 4 ≤ length s → get_or s at 0 + 256 * get_or s (at + 1) 0 + 65536 * get_or s (at + 2) 0 + 16777216 * get_or s (at + 3) 0 ≡ low (part_of s at 4)
  low-four h =
      let z : part_of s at 4 ≡ part_of s (at + 0) 4 = ap (λ (k : ℕ). part_of s k 4) start in
      let y : get_or s at 0 ≡ get_or s (at + 0) 0 = ap (λ (k : ℕ). get_or s k 0) start in
      rw z (omega (arith, low_step s at 0 3 (omega arith), low_step s at 1 2 (omega arith), low_step s at 2 1 (omega arith), low_step s at 3 0 (omega arith), low-none s (at + 4)))

  pub low-eight : at + 8 ≤ length s
      → get_or s at 0 + 256 * get_or s (at + 1) 0 + 65536 * get_or s (at + 2) 0 + 16777216 * get_or s (at + 3) 0 + 4294967296 * get_or s (at + 4) 0 + 1099511627776 * get_or s (at + 5) 0 + 281474976710656 * get_or s (at + 6) 0
      + 72057594037927936 * get_or s (at + 7) 0
      ≡ low (part_of s at 8)
  low-eight h =
      let z : part_of s at 8 ≡ part_of s (at + 0) 8 = ap (λ (k : ℕ). part_of s k 8) start in
      let y : get_or s at 0 ≡ get_or s (at + 0) 0 = ap (λ (k : ℕ). get_or s k 0) start in
      rw z
      (omega (
        arith,
        low_step s at 0 7 (omega arith),
        low_step s at 1 6 (omega arith),
        low_step s at 2 5 (omega arith),
        low_step s at 3 4 (omega arith),
        low_step s at 4 3 (omega arith),
        low_step s at 5 2 (omega arith),
        low_step s at 6 1 (omega arith),
        low_step s at 7 0 (omega arith),
        low-none s (at + 8),
      ))

-- ---- a part of a part

drop-take : (a m : ℕ) (x : List ℕ) → drop a (take (a + m) x) ≡ take m (drop a x)
drop-take zero m x = let z : 0 + m ≡ m = omega arith in rw z
drop-take (suc a) m [] = let z : suc a + m ≡ suc (a + m) = omega arith in rw z (sym (take-nil m))
drop-take (suc a) m (b ∷ x) = let z : suc a + m ≡ suc (a + m) = omega arith in rw z (drop-take a m x)

pub part-part : (s : List ℕ) (at m a k : ℕ) → a + k ≤ m → part_of (part_of s at m) a k ≡ part_of s (at + a) k
part-part s at m a k h =
    let z : m ≡ a + (m - a) = omega arith in
    let g : k ≤ m - a = omega arith in
    rw z (rw (drop-take, take-take, drop-drop))

-- how long it is
pub part_length : (s : List ℕ) (at k : ℕ) → at + k ≤ length s → length (part_of s at k) ≡ k
part_length s at k h = length-take-le k (drop at s) (rw length-drop (omega arith))

-- its bytes
part-get : (s : List ℕ) (at k i : ℕ) → i < k → get_or (part_of s at k) i 0 ≡ get_or s (at + i) 0
part-get s at k i h = rw (get_or-take, get_or-drop)

-- ---- w, and as many bytes of the text from a place on

pub agree-none : (text : List ℕ) (start : ℕ) (w : List ℕ) → Agree text start w 0
agree-none text start w j h = absurd (omega arith)

pub agree_less : (text : List ℕ) (start : ℕ) (w : List ℕ) (i k : ℕ) → k ≤ i → Agree text start w i → Agree text start w k
agree_less text start w i k h f j l = f j (omega arith)

pub agree-more : (text : List ℕ) (start : ℕ) (w : List ℕ) (i : ℕ) → Agree text start w i → get_or w i 0 ≡ get_or text (start + i) 0 → Agree text start w (i + 1)
agree-more text start w i f e j l = go (ℕ_discrete j i)
  where
    go : Dec (j ≡ i) → get_or w j 0 ≡ get_or text (start + j) 0
    go (yes q) = rw q e
    go (no q) = f j (omega arith)

pub at_zero : (s : List ℕ) (k m : ℕ) → low (part_of s k m) ≡ low (part_of s (k + 0) m)
at_zero s k m = let z : k ≡ k + 0 = omega arith in ap (λ (j : ℕ). low (part_of s j m)) z

module _ (text : List ℕ) (start : ℕ) (w : List ℕ) (inside : start + length w ≤ length text) where
  pub agree-all : (i : ℕ) → length w ≤ i → Agree text start w i → true ≡ same w (part_of text start (length w))
  agree-all i l f = sym (same-all w (part_of text start (length w)) (sym (part_length text start (length w) inside)) (λ j h. f j (omega arith) ∙ sym (part-get text start (length w) j h)))

  pub byte-off : (i : ℕ) → i < length w → (get_or w i 0 ≡ get_or text (start + i) 0 → ⊥) → false ≡ same w (part_of text start (length w))
  byte-off i h f =
      sym (same-off w (part_of text start (length w)) i h (omega (arith, part_length text start (length w) inside)) (λ e. f (e ∙ part-get text start (length w) i h)))

  -- m bytes from i on: other numbers, and the same
  module _ (i m : ℕ) (h : i + m ≤ length w) where
    pub chunk-off : (low (part_of text (start + i) m) ≡ low (part_of w i m) → ⊥) → false ≡ same w (part_of text start (length w))
    chunk-off f = go (same w (part_of text start (length w))) refl
      where
        go : (b : Bool) → same w (part_of text start (length w)) ≡ b → false ≡ same w (part_of text start (length w))
        go true q =
            let e : w ≡ part_of text start (length w) = same_true w _ q in
            let r : part_of w i m ≡ part_of text (start + i) m = ap (λ (x : List ℕ). part_of x i m) e ∙ part-part text start (length w) i m h in
            absurd (f (sym (ap low r)))
        go false q = sym q

    pub chunk-on : Bytes text → Bytes w → low (part_of text (start + i) m) ≡ low (part_of w i m) → Agree text start w i → Agree text start w (i + m)
    chunk-on bs bw e f j l = le-cases i j here (λ k. f j k)
      where
        parts : part_of text (start + i) m ≡ part_of w i m
        parts =
            let p = part_length text (start + i) m (omega arith) in
            let q = part_length w i m h in
            low_same _ _ (p ∙ sym q) (λ x k. subst (λ (b : ℕ). b < 256) (sym (part-get text (start + i) m x (omega arith))) (bs (start + i + x))) (λ x k. subst (λ (b : ℕ). b < 256) (sym (part-get w i m x (omega arith))) (bw (i + x))) e

        here : i ≤ j → get_or w j 0 ≡ get_or text (start + j) 0
        here k =
            let a : i + (j - i) ≡ j = omega arith in
            let b : start + i + (j - i) ≡ start + j = omega arith in
            let d : j - i < m = omega arith in
            let x : get_or w (i + (j - i)) 0 ≡ get_or text (start + i + (j - i)) 0 = sym (part-get w i m (j - i) d) ∙ ap (λ (y : List ℕ). get_or y (j - i) 0) (sym parts) ∙ part-get text (start + i) m (j - i) d in
            rw (← a) (rw a (rw (a, b) at x))
