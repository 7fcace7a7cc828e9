-- Marks on the places of a list, and what they pick.
use Rattle.std.specs.Prelude.{◌≡◌, Bool, true, cond, List, [], ◌∷◌, ◌++◌, length, ℕ, suc}
use Rattle.row.specs.own.Row.{row_hasb}

-- the words of the marks, a bit for each statement
abbrev pub mark_words : ℕ
mark_words = 103

-- the elements whose places are marked, where the first has the place i
unfoldable pub picked_from : {A : Type 0} → (ℕ → Bool) → ℕ → List A → List A
picked_from m i [] = []
picked_from m i (x ∷ xs) = cond (m i) (x ∷ picked_from m (suc i) xs) (picked_from m (suc i) xs)

-- the same by the bits of words
abbrev pub picked : {A : Type 0} → List ℕ → List A → List A
picked marks xs = picked_from (row_hasb marks) 0 xs

-- the mark n is set, and all others are as they were
abbrev pub Sets : (ℕ → Bool) → ℕ → (ℕ → Bool) → Type 0
Sets m n m' = (m' n ≡ true) × ((j : ℕ) → (j ≡ n → ⊥) → m' j ≡ m j)

-- n is the place of the first element with which, beside those kept, there is enough
pub record Until {A : Type 0} (Enough : List A → Type 0) (all kept : List A) (n : ℕ) : Type 0 where
  pub before : List A
  pub at : A
  pub after : List A
  pub is : all ≡ before ++ at ∷ after
  pub place : n ≡ length before
  pub without : ¬ (Enough (before ++ kept))
  pub with : Enough (before ++ at ∷ kept)
