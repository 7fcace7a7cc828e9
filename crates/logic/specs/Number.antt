-- How many things there are of a kind.
use Rattle.std.specs.Prelude.{◌≡◌, List, [], ◌∷◌, ℕ, length}

-- x is one of the list
pub data One {A : Type 0} (x : A) : List A → Type 0 where
  first : {xs : List A} → One x (x ∷ xs)
  later : {y : A} {xs : List A} → One x xs → One x (y ∷ xs)

-- no two of the list are equal
pub data Distinct {A : Type 0} : List A → Type 0 where
  none : Distinct []
  more : {x : A} {xs : List A} → ¬ (One x xs) → Distinct xs → Distinct (x ∷ xs)

-- there are exactly k things with the property P: a list of them all, each once, is k long
pub record Number {A : Type 0} (P : A → Type 0) (k : ℕ) : Type 0 where
  pub all : List A
  pub distinct : Distinct all
  pub sound : (x : A) → One x all → P x
  pub whole : (x : A) → P x → One x all
  pub count : length all ≡ k
