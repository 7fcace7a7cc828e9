-- Laws of the number of a word: words of up to seven bytes are told by it. Assumes nothing.
use Rattle.std.specs.Prelude.{◌≡◌, refl, Bool, true, false, cond, List, [], ◌∷◌, ℕ, zero, suc, ◌+◌, ◌-◌, ◌*◌, ◌≤◌, ◌<◌, leb, ltb, eqb, length, get_or, take, drop}
use Rattle.std.proofs.Common.{sym, ap, ◌∙◌, true≢false, arith, eq-eqb, eqb-true, le-leb, leb-true, ltb-true, ne_eqb, drop_of_length-le, length-drop, drop-cons, take_all}
use Rattle.std.proofs.lemmas.Bool.{lt-leb}
use Rattle.text.specs.Bytes.{every, same}
use Rattle.text.specs.laws.Bytes.{same-all, same_true}
use Rattle.text.specs.laws.Choice.{bool_same, le-cases}
use Rattle.field.specs.Words.{Field, meaning}
use Rattle.field.specs.own.Code.{code_of, number}

-- all elements are bytes
abbrev pub Bytes : List ℕ → Type 0
Bytes f = (i : ℕ) → get_or f i 0 < 256

-- up to seven bytes
unfoldable pub small : Field → Bool
small x = cond (leb (length x) 7) (every (λ b. ltb b 256) x) false

-- ---- bytes by their number

number-some : (s : List ℕ) → 1 ≤ number s
unfolding number
number-some [] = omega arith
number-some (b ∷ s) = omega (arith, number-some s)

-- bytes that make one number are the same
number_same : (a b : List ℕ) → Bytes a → Bytes b → number a ≡ number b → a ≡ b
unfolding number
number_same [] [] f g e = refl
number_same [] (b ∷ t) f g e = absurd (omega (arith, number-some t))
number_same (a ∷ s) [] f g e = absurd (omega (arith, number-some s))
number_same (a ∷ s) (b ∷ t) f g e =
    let p : a < 256 = f 0 in
    let q : b < 256 = g 0 in
    let h : a ≡ b = omega arith in
    let r : s ≡ t = number_same s t (λ i. f (suc i)) (λ i. g (suc i)) (omega arith) in
    rw (h, r)

every-bytes : (s : List ℕ) → every (λ b. ltb b 256) s ≡ true → Bytes s
unfolding every
every-bytes [] e i = omega arith
every-bytes (b ∷ s) e i = go (ltb b 256) refl (every-bytes s) i
  where
    go : (x : Bool) → ltb b 256 ≡ x → (every (λ b. ltb b 256) s ≡ true → Bytes s) → (j : ℕ) → get_or (b ∷ s) j 0 < 256
    go true q r zero = ltb-true b 256 q
    go true q r (suc j) = r (rw q at e) j
    go false q r j = absurd (true≢false (sym (rw q at e)))

small-bounds : (x : Field) → small x ≡ true → (length x ≤ 7) × Bytes x
unfolding small
small-bounds x e = go (leb (length x) 7) refl
  where
    go : (y : Bool) → leb (length x) 7 ≡ y → (length x ≤ 7) × Bytes x
    go true q = (leb-true (length x) 7 q, every-bytes x (rw q at e))
    go false q = absurd (true≢false (sym (rw q at e)))

module _ (f : Field) where
  pub code-short : length f ≤ 7 → number f ≡ code_of f
  unfolding code_of
  code-short h = rw (le-leb _ _ h)

  pub code-long : 7 < length f → 0 ≡ code_of f
  unfolding code_of
  code-long h = rw (lt-leb _ _ h)

-- a word of up to seven bytes is told by its number
pub code-tells : (f x : Field) → Bytes f → small x ≡ true → same f x ≡ eqb (code_of f) (number x)
code-tells f x bytes s = bool_same (same f x) (eqb (code_of f) (number x)) to from
  where
    to : same f x ≡ true → eqb (code_of f) (number x) ≡ true
    to e =
        let q : f ≡ x = same_true f x e in
        eq-eqb _ _ (ap code_of q ∙ sym (code-short x (small-bounds x s).0))

    from : eqb (code_of f) (number x) ≡ true → same f x ≡ true
    from e =
        let q : code_of f ≡ number x = eqb-true _ _ e in
        le-cases (length f) 7
        (λ h. let r : f ≡ x = number_same f x bytes (small-bounds x s).1 (code-short f h ∙ q) in rw r (same-all x x refl (λ i h. refl)))
        (λ h. absurd (omega (arith, code-long f h, number-some x)))

-- ---- words, each with what it stands for, by their numbers

abbrev pub smalls : {A : Type 0} → List (Field × A) → Bool
smalls [] = true
smalls (p ∷ ps) = cond (small p.0) (smalls ps) false

abbrev pub numbered : {A : Type 0} → List (Field × A) → List (ℕ × A)
numbered [] = []
numbered (p ∷ ps) = (number p.0, p.1) ∷ numbered ps

-- what a number stands for, or else `none`
abbrev pub told : {A : Type 0} → A → List (ℕ × A) → ℕ → A
told none [] k = none
told none (p ∷ ps) k = cond (eqb k p.0) p.1 (told none ps k)

-- k is none of the numbers
abbrev pub NoneOf : {A : Type 0} → List (ℕ × A) → ℕ → Type 0
NoneOf [] k = Unit {0}
NoneOf (p ∷ ps) k = (k ≡ p.0 → ⊥) × NoneOf ps k

told_none : {A : Type 0} (none : A) (ps : List (ℕ × A)) (k : ℕ) → NoneOf ps k → none ≡ told none ps k
told_none none [] k n = refl
told_none none (p ∷ ps) k n = rw (ne_eqb k p.0 n.0) (told_none none ps k n.1)

-- what a field stands for, its number does
meaning-told : {A : Type 0} (none : A) (ps : List (Field × A)) (f : Field) → Bytes f → smalls ps ≡ true → told none (numbered ps) (code_of f) ≡ meaning none ps f
meaning-told none [] f b e = refl
meaning-told none (p ∷ ps) f b e = go (small p.0) refl (meaning-told none ps f b)
  where
    go : (y : Bool) → small p.0 ≡ y → (smalls ps ≡ true → told none (numbered ps) (code_of f) ≡ meaning none ps f)
        → told none (numbered (p ∷ ps)) (code_of f) ≡ meaning none (p ∷ ps) f
    go true q r = rw (code-tells f p.0 b q, r (rw q at e))
    go false q r = absurd (true≢false (sym (rw q at e)))

-- the field f has the number k; qs has the numbers of the words ps
module _ {A : Type 0} (none : A) (ps : List (Field × A)) (qs : List (ℕ × A)) (small : smalls ps ≡ true) (codes : numbered ps ≡ qs) (f : Field) (k : ℕ) (b : Bytes f) (is : k ≡ code_of f) where
  told-meaning : told none qs k ≡ meaning none ps f
  told-meaning = rw (is, ← codes) (meaning-told none ps f b small)

  pub word-is : (j : ℕ) → k ≡ j → told none qs j ≡ meaning none ps f
  word-is j e = rw (← e) told-meaning

  pub word_none : NoneOf qs k → none ≡ meaning none ps f
  word_none n = told_none none qs k n ∙ told-meaning

-- ---- the number of so many bytes

number_step : (f : List ℕ) (i : ℕ) → i < length f → number (drop i f) ≡ get_or f i 0 + 256 * number (drop (suc i) f)
unfolding number
number_step f i h = rw (drop-cons f i 0)

number-end : (f : List ℕ) (i : ℕ) → length f ≤ i → number (drop i f) ≡ 1
unfolding number
number-end f i h = rw (drop_of_length-le f h)

module _ (f : List ℕ) where
  pub number-0 : length f ≡ 0 → 1 ≡ number f
  number-0 h = omega (arith, number-end f 0 (omega arith))

  pub number-1 : length f ≡ 1 → get_or f 0 0 + 256 ≡ number f
  number-1 h = omega (arith, number_step f 0 (omega arith), number-end f 1 (omega arith))

  pub number-2 : length f ≡ 2 → get_or f 0 0 + 256 * get_or f 1 0 + 65536 ≡ number f
  number-2 h = omega (arith, number_step f 0 (omega arith), number_step f 1 (omega arith), number-end f 2 (omega arith))

  pub number-3 : length f ≡ 3 → get_or f 0 0 + 256 * get_or f 1 0 + 65536 * get_or f 2 0 + 16777216 ≡ number f
  number-3 h = omega (arith, number_step f 0 (omega arith), number_step f 1 (omega arith), number_step f 2 (omega arith), number-end f 3 (omega arith))

  -- m is the number of the bytes after the first four
  pub number-four : 4 ≤ length f → (m : ℕ) → m ≡ number (take (length f - 4) (drop 4 f)) → get_or f 0 0 + 256 * get_or f 1 0 + 65536 * get_or f 2 0 + 16777216 * get_or f 3 0 + 4294967296 * m ≡ number f
  number-four h m e =
      let q : m ≡ number (drop 4 f) = e ∙ ap number (take_all (length f - 4) (drop 4 f) (omega (arith, length-drop 4 f))) in
      omega (arith, q, number_step f 0 (omega arith), number_step f 1 (omega arith), number_step f 2 (omega arith), number_step f 3 (omega arith))
