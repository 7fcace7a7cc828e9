-- Laws of the bits of a word: |, &, one bit, equality and the count of set bits. Assumes nothing.
use Rattle.std.specs.Prelude.{◌≡◌, refl, ◌⊎◌, Bool, true, false, List, ℕ, zero, suc, ◌+◌, ◌-◌, ◌*◌, ◌/◌, ◌%◌, ◌^◌, ◌≤◌, ◌<◌, min, max, get_or}
use Rattle.std.proofs.Common.{sym, ap, ap₂, ◌∙◌, subst, inl, inr, ⊎_elim, mod-lt, zero-lt-suc, div-add-mod', pow-suc, div-one, lt_of_lt_of_le, lt_of_le_of_lt, mul-div_cancel, arith, add-one, one-add, eqb-true, eq-eqb, pow_pos, pow_mono, shr-shr, shr_lt}
use Rattle.std.proofs.Math.Nat.{zero-max, div-eq_of_lt, zero-div, mul-mod_left, div_self}
use Rattle.std.proofs.Math.Decide.{ℕ_discrete, dec_lt}
use Rattle.std.proofs.lemmas.Bool.{eqb-false}
use Rattle.std.proofs.Math.Arith.{digits_mod, lt-one}
use Rattle.std.proofs.lemmas.Nat.{shr_le, or_shr, and_shr}
use Rattle.std.proofs.Math.Pow.{split}
use Rattle.std.specs.Int.Bits.{bit_or, bit_and, or_step, and_step}
use Rattle.std.specs.Int.Count.{ones, ones_step}
use Rattle.row.specs.Bit.{Has}
use Rattle.row.specs.own.Bit.{hasb, low_bits}

two_pos : zero < 2
two_pos = zero-lt-suc 1

-- whether a bit is set can be told
pub has? : (n k : ℕ) → Dec (Has n k)
has? n k = go (ℕ_discrete (n / 2 ^ k % 2) 1)
  where
    go : Dec (n / 2 ^ k % 2 ≡ 1) → Dec (Has n k)
    go (yes e) = yes (record { bit = e })
    go (no e) = no (λ h. e h.bit)

-- the test and the fact
pub hasb-has : (w k : ℕ) → hasb w k ≡ true → Has w k
hasb-has w k e = record { bit = eqb-true (w / 2 ^ k % 2) 1 e }

pub has-hasb : {w k : ℕ} → Has w k → hasb w k ≡ true
has-hasb {w} {k} h = eq-eqb (w / 2 ^ k % 2) 1 h.bit

pub hasb-not : (w k : ℕ) → hasb w k ≡ false → ¬ (Has w k)
hasb-not w k e h = eqb-false (w / 2 ^ k % 2) 1 e h.bit

pub not-hasb : (w k : ℕ) → ¬ (Has w k) → hasb w k ≡ false
not-hasb w k n = go (hasb w k) refl
  where
    go : (b : Bool) → hasb w k ≡ b → b ≡ false
    go true e = absurd (n (hasb-has w k e))
    go false e = refl

-- a bit of an equal word
pub moved : {x y k : ℕ} → x ≡ y → Has x k → Has y k
moved {k = k} e h = subst (λ (w : ℕ). Has w k) e h

-- a bit of the word at an equal place
pub at_place : (s : List ℕ) {i j k : ℕ} → i ≡ j → Has (get_or s i 0) k → Has (get_or s j 0) k
at_place s {k = k} e h = subst (λ (x : ℕ). Has (get_or s x 0) k) e h

-- a bit of an equal number
pub at-bit : {w j k : ℕ} → j ≡ k → Has w j → Has w k
at-bit {w} e h = subst (λ (x : ℕ). Has w x) e h

-- ---- digits 0 and 1

bit-max : (x y : ℕ) → max x y ≡ 1 → (x ≡ 1) ⊎ (y ≡ 1)
bit-max zero y e = inr (sym (zero-max y) ∙ e)
bit-max (suc x) y e = go x e
  where
    go : (z : ℕ) → max (suc z) y ≡ 1 → (suc z ≡ 1) ⊎ (y ≡ 1)
    go zero e' = inl refl
    go (suc z) e' = absurd (omega arith)

pub zero-none : {k : ℕ} → ¬ (Has 0 k)
zero-none {k} h = omega (arith, zero-div (2 ^ k))

-- a word of w bits has no bit from w on
pub has-lt : (w : ℕ) {n k : ℕ} → n < 2 ^ w → Has n k → k < w
has-lt w {n} {k} h x = go (dec_lt k w)
  where
    go : Dec (k < w) → k < w
    go (yes l) = l
    go (no l) =
        let le : w ≤ k = omega arith in
        absurd (omega (arith, x.bit, ap (λ (y : ℕ). y % 2) (div-eq_of_lt (lt_of_lt_of_le h (pow_mono le)))))

-- ---- | and &

or-odd : (a b : ℕ) → bit_or a b % 2 ≡ max (a % 2) (b % 2)
or-odd a b = ap (λ (x : ℕ). x % 2) (or_step a b) ∙ digits_mod (bit_or (a / 2) (b / 2)) (omega arith)

and-odd : (a b : ℕ) → bit_and a b % 2 ≡ min (a % 2) (b % 2)
and-odd a b = ap (λ (x : ℕ). x % 2) (and_step a b) ∙ digits_mod (bit_and (a / 2) (b / 2)) (omega arith)

or-bit : (a b k : ℕ) → bit_or a b / 2 ^ k % 2 ≡ max (a / 2 ^ k % 2) (b / 2 ^ k % 2)
or-bit a b k = ap (λ (x : ℕ). x % 2) (or_shr a b k) ∙ or-odd (a / 2 ^ k) (b / 2 ^ k)

and-bit : (a b k : ℕ) → bit_and a b / 2 ^ k % 2 ≡ min (a / 2 ^ k % 2) (b / 2 ^ k % 2)
and-bit a b k = ap (λ (x : ℕ). x % 2) (and_shr a b k) ∙ and-odd (a / 2 ^ k) (b / 2 ^ k)

pub has-or : (a b k : ℕ) → Has (bit_or a b) k → Has a k ⊎ Has b k
has-or a b k h = ⊎_elim (λ e. inl (record { bit = e })) (λ e. inr (record { bit = e })) (bit-max (a / 2 ^ k % 2) (b / 2 ^ k % 2) (sym (or-bit a b k) ∙ h.bit))

pub or_left : (a b k : ℕ) → Has a k → Has (bit_or a b) k
or_left a b k h = record { bit = omega (arith, or-bit a b k) }

pub or_right : (a b k : ℕ) → Has b k → Has (bit_or a b) k
or_right a b k h = record { bit = omega (arith, or-bit a b k) }

pub and-has : (a b k : ℕ) → Has a k → Has b k → Has (bit_and a b) k
and-has a b k h l = record { bit = omega (arith, and-bit a b k) }

pub and_left : (a b k : ℕ) → Has (bit_and a b) k → Has a k
and_left a b k h = record { bit = omega (arith, and-bit a b k) }

pub and_right : (a b k : ℕ) → Has (bit_and a b) k → Has b k
and_right a b k h = record { bit = omega (arith, and-bit a b k) }

-- ---- the next digit

half-bit : (n k : ℕ) → n / 2 / 2 ^ k ≡ n / 2 ^ suc k
half-bit n k = shr-shr n 1 k ∙ ap (λ (x : ℕ). n / 2 ^ x) (one-add k)

pub has-half : (n k : ℕ) → Has n (suc k) → Has (n / 2) k
has-half n k h = record { bit = ap (λ (x : ℕ). x % 2) (half-bit n k) ∙ h.bit }

pub half-has : (n k : ℕ) → Has (n / 2) k → Has n (suc k)
half-has n k h = record { bit = ap (λ (x : ℕ). x % 2) (sym (half-bit n k)) ∙ h.bit }

half_lt : (w n : ℕ) → n < 2 ^ suc w → n / 2 < 2 ^ w
half_lt w n h = shr_lt w 1 (subst (λ (x : ℕ). n < 2 ^ x) (sym (add-one w)) h)

-- ---- a word that is below 2 ^ w is known by its w bits

digits-eq : (x y : ℕ) → x < 2 → y < 2 → (x ≡ 1 → y ≡ 1) → (y ≡ 1 → x ≡ 1) → x ≡ y
digits-eq zero zero hx hy f g = refl
digits-eq zero (suc y) hx hy f g = let e : suc y ≡ 1 = omega arith in omega (arith, g e)
digits-eq (suc x) y hx hy f g = let e : suc x ≡ 1 = omega arith in omega (arith, f e)

has-zero : (n : ℕ) → n % 2 ≡ 1 → Has n 0
has-zero n h = record { bit = ap (λ (x : ℕ). x % 2) (div-one n) ∙ h }

zero_has : (n : ℕ) → Has n 0 → n % 2 ≡ 1
zero_has n h = ap (λ (x : ℕ). x % 2) (sym (div-one n)) ∙ h.bit

digit-le : (x y : ℕ) → x < 2 → (x ≡ 1 → y ≡ 1) → x ≤ y
digit-le zero y hx f = omega arith
digit-le (suc x) y hx f = let e : suc x ≡ 1 = omega arith in omega (arith, f e)

pub word-ext : (w a b : ℕ) → a < 2 ^ w → b < 2 ^ w → ((k : ℕ) → k < w → Has a k → Has b k) → ((k : ℕ) → k < w → Has b k → Has a k) → a ≡ b
word-ext zero a b ha hb f g = lt-one ha ∙ sym (lt-one hb)
word-ext (suc w) a b ha hb f g =
    sym (div-add-mod' a 2)
    ∙ ap₂ (λ (x y : ℕ). x * 2 + y)
    (word-ext w (a / 2) (b / 2) (half_lt w a ha) (half_lt w b hb)
    (λ k h x. has-half b k (f (suc k) (omega arith) (half-has a k x)))
    (λ k h x. has-half a k (g (suc k) (omega arith) (half-has b k x))))
    (digits-eq (a % 2) (b % 2) (mod-lt a two_pos) (mod-lt b two_pos) (low a b f) (low b a g))
    ∙ div-add-mod' b 2
  where
    low : (a' b' : ℕ) → ((k : ℕ) → k < suc w → Has a' k → Has b' k) → a' % 2 ≡ 1 → b' % 2 ≡ 1
    low a' b' h e = zero_has b' (h 0 (omega arith) (has-zero a' e))

-- a word with no bit
pub no_bits : (w a : ℕ) → a < 2 ^ w → ((k : ℕ) → k < w → ¬ (Has a k)) → a ≡ 0
no_bits w a h f = word-ext w a 0 h (pow_pos w) (λ k l x. absurd (f k l x)) (λ k l x. absurd (zero-none x))

-- a word with no bit from w on
pub bits-lt : (v w : ℕ) {x : ℕ} → x < 2 ^ v → ((k : ℕ) → Has x k → k < w) → x < 2 ^ w
bits-lt v w {x} h f =
    let none : x / 2 ^ w ≡ 0 =
    no_bits v (x / 2 ^ w) (lt_of_le_of_lt (shr_le x w) h)
    (λ k l y. absurd (omega (arith, f (w + k) (record { bit = ap (λ (z : ℕ). z % 2) (sym (shr-shr x w k)) ∙ y.bit }))))
    in
    omega (arith, split x w, mod-lt x (pow_pos w), ap (λ (z : ℕ). z * 2 ^ w) none)

-- ---- one bit: 1 << j

pow_even : (j : ℕ) → 2 ^ suc j % 2 ≡ 0
pow_even j = ap (λ (x : ℕ). x % 2) (pow-suc 2 j) ∙ mul-mod_left (2 ^ j) 2

pow-half : (j : ℕ) → 2 ^ suc j / 2 ≡ 2 ^ j
pow-half j = ap (λ (x : ℕ). x / 2) (pow-suc 2 j) ∙ mul-div_cancel (2 ^ j) two_pos

pub pow-has : (j : ℕ) → Has (2 ^ j) j
pow-has j = record { bit = ap (λ (x : ℕ). x % 2) (div_self (pow_pos j)) }

pub has-pow : (j k : ℕ) → Has (2 ^ j) k → k ≡ j
has-pow zero zero h = refl
has-pow zero (suc k) h = absurd (zero-none (has-half 1 k h))
has-pow (suc j) zero h = absurd (omega (arith, zero_has (2 ^ suc j) h, pow_even j))
has-pow (suc j) (suc k) h = ap suc (has-pow j k (subst (λ (x : ℕ). Has x k) (pow-half j) (has-half (2 ^ suc j) k h)))

-- ---- the count of set bits

pub ones-zero : ones 0 ≡ 0
unfolding ones
ones-zero = refl

-- a part of a word's bits is counted below it
pub ones-part : (w a b : ℕ) → a < 2 ^ w → ((k : ℕ) → k < w → Has a k → Has b k) → ones a ≤ ones b
ones-part zero a b h f = omega (arith, ap ones (lt-one h), ones-zero)
ones-part (suc w) a b h f =
    let ih = ones-part w (a / 2) (b / 2) (half_lt w a h) (λ k l x. has-half b k (f (suc k) (omega arith) (half-has a k x))) in
    let lo : a % 2 ≤ b % 2 = digit-le (a % 2) (b % 2) (mod-lt a two_pos) (λ e. zero_has b (f 0 (omega arith) (has-zero a e))) in
    omega (arith, ones_step a, ones_step b)

-- ---- the bits below n

full-has : (n k : ℕ) → k < n → Has (2 ^ n - 1) k
full-has zero k l = absurd (omega arith)
full-has (suc n) zero l = record { bit = ap (λ (x : ℕ). x % 2) (div-one (2 ^ suc n - 1)) ∙ omega (arith, pow-suc 2 n, pow_pos n) }
full-has (suc n) (suc k) l =
    let e : 2 ^ n - 1 ≡ (2 ^ suc n - 1) / 2 = omega (arith, pow-suc 2 n, pow_pos n) in
    half-has (2 ^ suc n - 1) k (moved e (full-has n k (omega arith)))

-- they are set
pub low-has : (n k : ℕ) → k < n → k < 64 → Has (low_bits n) k
unfolding low_bits
low-has n k l h = full-has (min n 64) k (omega arith)

-- and no other
pub has-low : (n k : ℕ) → Has (low_bits n) k → k < n
unfolding low_bits
has-low n k h =
    let l : 2 ^ min n 64 - 1 < 2 ^ min n 64 = omega (arith, pow_pos (min n 64)) in
    omega (arith, has-lt (min n 64) l h)

-- a word with all its bits
pub low-all : (n : ℕ) → 64 ≤ n → 2 ^ 64 - 1 ≡ low_bits n
unfolding low_bits
low-all n l = let e : 64 ≡ min n 64 = omega arith in ap (λ (k : ℕ). 2 ^ k - 1) e

-- and one with fewer
pub low-some : (n : ℕ) → n < 64 → 2 ^ n - 1 ≡ low_bits n
unfolding low_bits
low-some n l = let e : n ≡ min n 64 = omega arith in ap (λ (k : ℕ). 2 ^ k - 1) e

-- a bit of a word that is shifted down
pub shift-has : (w n : ℕ) {k : ℕ} → Has (w / 2 ^ n) k → Has w (n + k)
shift-has w n {k} x = record { bit = ap (λ (y : ℕ). y % 2) (sym (shr-shr w n k)) ∙ x.bit }

-- and a bit of the word as one of the word shifted down
pub has-shift : (w n : ℕ) {k : ℕ} → Has w (n + k) → Has (w / 2 ^ n) k
has-shift w n {k} x = record { bit = ap (λ (y : ℕ). y % 2) (shr-shr w n k) ∙ x.bit }
