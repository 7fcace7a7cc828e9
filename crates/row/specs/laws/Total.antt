-- Laws of a list of words: the number of its set bits, and that its bits settle it. Assumes nothing.
use Rattle.std.specs.Prelude.{◌≡◌, List, [], ◌∷◌, ◌++◌, ℕ, suc, ◌+◌, ◌≤◌, ◌<◌, length, get_or, take}
use Rattle.std.proofs.Common.{ap, ◌∙◌, arith, add-one, ext_get_or, take-suc, take_all}
use Rattle.std.specs.Int.Count.{ones}
use Rattle.row.specs.Bit.{total, Words}
use Rattle.row.specs.own.Bit.{Part}
use Rattle.row.specs.laws.Bit.{word-ext, ones-part}

-- fewer bits, a smaller number
pub total-part : (w : ℕ) (s t : List ℕ) → length s ≡ length t → Words w s → Part s t → total s ≤ total t
total-part w [] t e ws f = omega arith
total-part w (x ∷ s) [] e ws f = absurd (omega arith)
total-part w (x ∷ s) (y ∷ t) e ws f =
    omega (arith, ones-part w x y (ws 0) (λ k l h. f 0 k h), total-part w s t (omega arith) (λ i. ws (suc i)) (λ i k h. f (suc i) k h))

-- the bits settle the list
pub words-ext : (w : ℕ) (s t : List ℕ) → length s ≡ length t → Words w s → Words w t → Part s t → Part t s → s ≡ t
words-ext w s t e hs ht f g =
    ext_get_or 0 s t e (λ i l. word-ext w (get_or s i 0) (get_or t i 0) (hs i) (ht i) (λ k lk h. f i k h) (λ k lk h. g i k h))

-- the same in a loop
total-append : (s t : List ℕ) → total (s ++ t) ≡ total s + total t
total-append [] t = omega arith
total-append (w ∷ s) t = omega (arith, total-append s t)

pub total-more : (s : List ℕ) (n i : ℕ) → i < length s → n ≡ total (take i s) → n + ones (get_or s i 0) ≡ total (take (i + 1) s)
total-more s n i h e = rw (add-one, take-suc s i 0 h, total-append) (omega arith)

pub total-all : (s : List ℕ) (n i : ℕ) → n ≡ total (take i s) → length s ≤ i → n ≡ total s
total-all s n i e h = e ∙ ap total (take_all i s h)
