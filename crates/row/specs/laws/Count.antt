-- Laws of how many bits are set: `ones` of a word and `total` of a list of words are their numbers. Assumes nothing.
use Rattle.std.specs.Prelude.{◌≡◌, refl, ◌⊎◌, List, [], ◌∷◌, ℕ, zero, suc, pred, ◌+◌, ◌*◌, ◌/◌, ◌%◌, ◌^◌, ◌≤◌, ◌<◌, length, get_or}
use Rattle.std.proofs.Common.{sym, ap, ◌∙◌, subst, inl, inr, ⊎_elim, arith, mul-suc, add-one, shr_lt}
use Rattle.std.proofs.Math.Decide.{ℕ_discrete}
use Rattle.std.proofs.Math.Arith.{lt-one}
use Rattle.std.specs.Int.Count.{ones, ones_step}
use Rattle.std.proofs.lemmas.Nat.{ones-le}
use Rattle.logic.specs.Number.{Number}
use Rattle.logic.specs.laws.Number.{number_at, number-iff, number-none, number_more, number-or, number-map}
use Rattle.row.specs.Bit.{Has, total, Words}
use Rattle.row.specs.laws.Bit.{zero-none, moved, at-bit, has-half, half-has, ones-zero}

-- the bits of a word: its lowest, and those of its half one place up
half-number : (n : ℕ) → Number (λ (k : ℕ). Has (n / 2) k) (ones (n / 2)) → Number (λ (k : ℕ). Has n k) (ones n)
half-number n a = go (ℕ_discrete (n % 2) 1)
  where
    Higher : ℕ → Type 0
    Higher k = (j : ℕ) × Has (n / 2) j × (k ≡ suc j)

    higher : Number Higher (ones (n / 2))
    higher = number-map suc (λ i j p q e. omega arith) a

    up : (k : ℕ) → Higher k → Has n k
    up k r = at-bit (sym r.2) (half-has n r.0 r.1)

    odd : (k : ℕ) → Has n k → (k ≡ 0) ⊎ Higher k
    odd zero b = inl refl
    odd (suc k) b = inr (k, has-half n k b, refl)

    even : ¬ (n % 2 ≡ 1) → (k : ℕ) → Has n k → Higher k
    even e zero b = absurd (omega (arith, b.bit))
    even e (suc k) b = (k, has-half n k b, refl)

    go : Dec (n % 2 ≡ 1) → Number (λ (k : ℕ). Has n k) (ones n)
    go (yes e) =
        number_at (omega (arith, ones_step n))
        (number-iff (λ k. ⊎_elim (λ z. at-bit (sym z) (record { bit = omega arith })) (up k)) odd (number_more (λ r. omega (arith, r.2)) higher))
    go (no e) = number_at (omega (arith, ones_step n)) (number-iff up (even e) higher)

-- the set bits of a word
pub word_number : (w n : ℕ) → n < 2 ^ w → Number (λ (k : ℕ). Has n k) (ones n)
word_number zero n h = number_at (sym (ap ones (lt-one h) ∙ ones-zero)) (number-none (λ k b. zero-none (moved (lt-one h) b)))
word_number (suc w) n h = half-number n (word_number w (n / 2) (shr_lt w 1 (subst (λ (x : ℕ). n < 2 ^ x) (sym (add-one w)) h)))

-- bit k of word i is set, for the pair (i, k)
abbrev pub SetBit : List ℕ → ℕ × ℕ → Type 0
SetBit s p = Has (get_or s p.0 0) p.1

-- the bits of a list: those of its first word, and those of the rest one word up
list-number : {x j k : ℕ} (s : List ℕ) → Number (λ (k : ℕ). Has x k) j → Number (SetBit s) k → Number (SetBit (x ∷ s)) (j + k)
list-number {x} {j} {k} s a b = number-iff to from (number-or apart here there)
  where
    Here : ℕ × ℕ → Type 0
    Here p = (k : ℕ) × Has x k × (p ≡ (0, k))

    There : ℕ × ℕ → Type 0
    There p = (q : ℕ × ℕ) × SetBit s q × (p ≡ (suc q.0, q.1))

    here : Number Here j
    here = number-map (λ k. (0, k)) (λ i j h l e. ap (λ (p : ℕ × ℕ). p.1) e) a

    there : Number There k
    there = number-map (λ q. (suc q.0, q.1)) (λ p q h l e. ap (λ (r : ℕ × ℕ). (pred r.0, r.1)) e) b

    apart : (p : ℕ × ℕ) → Here p → ¬ (There p)
    apart p h l = omega (arith, ap (λ (r : ℕ × ℕ). r.0) (sym h.2 ∙ l.2))

    to : (p : ℕ × ℕ) → Here p ⊎ There p → SetBit (x ∷ s) p
    to p = ⊎_elim (λ h. subst (λ r. SetBit (x ∷ s) r) (sym h.2) h.1) (λ l. subst (λ r. SetBit (x ∷ s) r) (sym l.2) l.1)

    from : (p : ℕ × ℕ) → SetBit (x ∷ s) p → Here p ⊎ There p
    from (zero, k) h = inl (k, h, refl)
    from (suc i, k) h = inr ((i, k), h, refl)

-- the set bits of a list of words: each by its word's place and its own in the word
pub bits-number : (w : ℕ) (s : List ℕ) → Words w s → Number (SetBit s) (total s)
bits-number w [] ws = number-none (λ p b. zero-none b)
bits-number w (x ∷ s) ws = list-number s (word_number w x (ws 0)) (bits-number w s (λ i. ws (suc i)))

-- at most all bits are set
pub total-le : (w : ℕ) (s : List ℕ) → Words w s → total s ≤ w * length s
total-le w [] ws = omega arith
total-le w (x ∷ s) ws = omega (arith, ones-le w x (ws 0), total-le w s (λ i. ws (suc i)), mul-suc w (length s))
