-- Answers as signed numbers.
use Rattle.std.specs.Prelude.{ℕ, ◌≤◌, ℤ, pos, neg_ℤ, Result, Ok, Err}

-- how many, or minus the number of refusal
abbrev pub signed_of : {K : Type 0} → (K → ℕ) → Result ℕ K → ℤ
signed_of number (Ok m) = pos m
signed_of number (Err k) = neg_ℤ (pos (number k))

-- an answer of at most so many
abbrev pub AtMost : {K : Type 0} → ℕ → Result ℕ K → Type 0
AtMost n (Ok m) = m ≤ n
AtMost n (Err k) = Unit {0}
