-- Laws of written text and of decimal numbers. Assumes nothing.
use Rattle.std.specs.Prelude.{◌≡◌, refl, Bool, true, false, cond, List, [], ◌∷◌, ◌++◌, ℕ, zero, suc, min, ◌+◌, ◌-◌, ◌*◌, ◌/◌, ◌%◌, ◌<◌, ◌≤◌, ◌^◌, ltb, length, take, drop, get_or, set}
use Rattle.std.proofs.Common.{add-one, drop-cons, sym, ap, length-take-le, take-append-drop, append_assoc, ap₂, ◌∙◌, zero-le, pow-suc, lt_of_lt_of_le, arith, lt-ltb, le-ltb, ltb-false, lit≤, length-append, drop_of_length-le}
use Rattle.std.proofs.lemmas.List.Edits.{sets, sets-eq, length-paste}
use lib.Seq.{paste}
use Rattle.std.proofs.Math.Seq.{set_out, take-append_seam}
use Rattle.logic.specs.laws.Sets.{sets-append}
use Rattle.text.specs.Text.{digits, decimal, Wrote}
use Rattle.text.specs.laws.Choice.{le-cases}

-- one text after the other
pub wrote_then : {room mid exit t u : List ℕ} {at p r : ℕ} → Wrote room at t mid p → Wrote mid p u exit r → Wrote room at (t ++ u) exit r
wrote_then {room} {mid} {exit} {t} {u} {at} {p} {r} f g =
    record {
      here = g.here ∙ rw (sets-append, f.here, f.next);
      next = g.next ∙ rw (f.next, length-append) (omega arith);
    }

-- what stands past the end of the room is not written
pub sets-past : (src l : List ℕ) (i : ℕ) → length l ≤ i → sets l i src ≡ l
sets-past [] l i h = refl
sets-past (b ∷ src) l i h = rw (set_out l i b h) (sets-past src l (suc i) (omega arith))

module _ (l src : List ℕ) (at i : ℕ) where
  sets-out : length src ≤ i → sets l (at + i) (drop i src) ≡ l
  sets-out h = rw (drop_of_length-le src h)

  -- nothing is left to write, or no room
  pub sets-done : i ≡ min (length src) (length l - at) → sets l (at + i) (drop i src) ≡ l
  sets-done e = le-cases (length src) i sets-out (λ h. sets-past (drop i src) l (at + i) (omega arith))

  pub sets-on : i < length src → sets l (at + i) (drop i src) ≡ sets (set l (at + i) (get_or src i 0)) (at + (i + 1)) (drop (i + 1) src)
  sets-on h =
      let k : suc (at + i) ≡ at + (i + 1) = omega arith in
      rw (drop-cons src i 0) (rw (← k, add-one))

-- as much as has place was copied
pub sets-copied : (l src : List ℕ) (at n : ℕ) → at ≤ length l → n ≡ min (length src) (length l - at) → sets l at src ≡ take at l ++ (take n src ++ drop (at + n) l)
sets-copied l src at n h e =
    let short : n ≤ length src = omega arith in
    let k : length (take n src) ≡ n = length-take-le n src short in
    let m : sets l at (take n src) ≡ paste l at src n = sets-eq (take n src) l at (omega arith) ∙ rw k in
    let len : length (paste l at src n) ≡ length l = length-paste l at src n (omega arith) short in
    ap (sets l at) (sym (take-append-drop n src)) ∙ sets-append l at (take n src) (drop n src) ∙ rw (m, k) (sets-done (paste l at src n) src at n (rw len e)) ∙ append_assoc (take at l) (take n src) (drop (at + n) l)

-- enough is enough
pub digits-enough : (f g n : ℕ) → n < f → n < g → digits f n ≡ digits g n
unfolding digits
digits-enough zero g n h k = absurd (omega arith)
digits-enough (suc f) zero n h k = absurd (omega arith)
digits-enough (suc f) (suc g) n h k = at (ltb n 10) refl (digits-enough f g (n / 10))
  where
    at : (e : Bool) → ltb n 10 ≡ e → (n / 10 < f → n / 10 < g → digits f (n / 10) ≡ digits g (n / 10))
        → cond e [] (digits f (n / 10)) ++ ((48 + n % 10) ∷ []) ≡ cond e [] (digits g (n / 10)) ++ ((48 + n % 10) ∷ [])
    at true q r = refl
    at false q r = let m : 10 ≤ n = ltb-false _ _ q in rw (r (omega arith) (omega arith))

pub decimal-one : (n : ℕ) → n < 10 → decimal n ≡ (48 + n % 10) ∷ []
unfolding decimal digits
decimal-one n h = rw (lt-ltb _ _ h)

digits_more : (f n : ℕ) → 10 ≤ n → digits (suc f) n ≡ digits f (n / 10) ++ ((48 + n % 10) ∷ [])
unfolding digits
digits_more f n h = rw (le-ltb _ _ h)

pub decimal-more : (n : ℕ) → 10 ≤ n → decimal n ≡ decimal (n / 10) ++ ((48 + n % 10) ∷ [])
unfolding decimal
decimal-more n h = digits_more n n h ∙ rw (digits-enough n (suc (n / 10)) (n / 10) (omega arith) (omega arith))

-- no more digits than the power of ten above has zeros
digits-short : (k f n : ℕ) → n < 10 ^ suc k → length (digits f n) ≤ suc k
unfolding digits
digits-short k zero n h = zero-le
digits-short zero (suc f) n h = let m : n < 10 = h in rw (lt-ltb _ _ m) (omega arith)
digits-short (suc k) (suc f) n h = rw length-append (at (ltb n 10) (digits-short k f (n / 10) (let p : n < 10 ^ suc k * 10 = rw pow-suc at h in omega arith)))
  where
    at : (e : Bool) → length (digits f (n / 10)) ≤ suc k → length (cond e [] (digits f (n / 10))) + 1 ≤ suc (suc k)
    at true r = omega arith
    at false r = omega arith

-- a number below a power of ten has at most so many digits
pub decimal-digits : (k n : ℕ) → n < 10 ^ suc k → length (decimal n) ≤ suc k
unfolding decimal
decimal-digits k n h = digits-short k (suc n) n h

-- twenty digits are enough for 64 bits
pub decimal-short : (n : ℕ) → n < 2 ^ 64 → length (decimal n) ≤ 20
decimal-short n h = decimal-digits 19 n (lt_of_lt_of_le h (lit≤ tt))

-- no text
pub wrote_none : (room : List ℕ) (at : ℕ) → Wrote room at [] room at
wrote_none room at = record { here = refl; next = omega arith }

-- a text that was written at the start of a room in which it has place
pub wrote-whole : {room exit text : List ℕ} {r : ℕ} → Wrote room 0 text exit r → length text ≤ length room → exit ≡ text ++ drop (length text) room
wrote-whole {room} {text = text} w h =
    let z : 0 + length text ≡ length text = omega arith in
    w.here ∙ sets-eq text room 0 (omega arith) ∙ rw z

-- it is then the first bytes of the room
pub wrote-text : {room exit text : List ℕ} {r : ℕ} → Wrote room 0 text exit r → r ≤ length room → take r exit ≡ text
wrote-text {room} {exit} {text} {r} w h =
    let e : r ≡ length text = omega (arith, w.next) in
    let z : exit ≡ text ++ drop (length text) room = wrote-whole w (omega (arith, e)) in
    ap₂ {C = List ℕ} (λ k l. take k l) e z ∙ take-append_seam text _
