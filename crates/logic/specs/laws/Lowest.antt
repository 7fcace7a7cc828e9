-- Laws of the lowest number that applies. Assumes nothing.
use Rattle.std.specs.Prelude.{◌≡◌, ◌⊎◌, ℕ, zero, suc, ◌<◌}
use Rattle.std.proofs.Common.{subst, inl, inr, ⊎_elim, arith}
use Rattle.std.proofs.Math.Decide.{ℕ_discrete, dec_lt}
use Rattle.logic.specs.Lowest.{Lowest, NoneApplies}

-- there is one lowest number
pub lowest-unique : {F : ℕ → Type 0} {j k : ℕ} → Lowest F j → Lowest F k → j ≡ k
lowest-unique {F} {j} {k} a b = go (ℕ_discrete j k) (dec_lt j k)
  where
    go : Dec (j ≡ k) → Dec (j < k) → j ≡ k
    go (yes e) d = e
    go (no n) (yes l) = absurd (b.lowest j l a.applies)
    go (no n) (no l) = absurd (a.lowest k (omega arith) b.applies)

-- none and a lowest one exclude each other
pub lowest-none : {F : ℕ → Type 0} {k : ℕ} → Lowest F k → ¬ (NoneApplies F)
lowest-none {F} {k} a n = n k a.applies

-- the lowest number below k that applies, or none
search-below : {F : ℕ → Type 0} → ((j : ℕ) → Dec (F j)) → (k : ℕ) → ((m : ℕ) × Lowest F m) ⊎ ((j : ℕ) → j < k → ¬ (F j))
search-below d zero = inr (λ j l. absurd (omega arith))
search-below {F} d (suc k) = ⊎_elim inl (λ none. at none (d k)) (search-below d k)
  where
    none_yet : ((j : ℕ) → j < k → ¬ (F j)) → ¬ (F k) → (j : ℕ) → j < suc k → ¬ (F j)
    none_yet f g j l x = tell (ℕ_discrete j k)
      where
        tell : Dec (j ≡ k) → ⊥
        tell (yes e) = g (subst F e x)
        tell (no e) = f j (omega arith) x

    at : ((j : ℕ) → j < k → ¬ (F j)) → Dec (F k) → ((m : ℕ) × Lowest F m) ⊎ ((j : ℕ) → j < suc k → ¬ (F j))
    at none (yes x) = inl (k, record { applies = x; lowest = none })
    at none (no x) = inr (none_yet none x)

-- where a number applies there is a lowest one
pub lowest-of : {F : ℕ → Type 0} → ((j : ℕ) → Dec (F j)) → (k : ℕ) → F k → (m : ℕ) × Lowest F m
lowest-of d k x = ⊎_elim (λ r. r) (λ none. absurd (none k (omega arith) x)) (search-below d (suc k))
