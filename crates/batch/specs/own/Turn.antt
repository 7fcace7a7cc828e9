-- What adding one statement and then the next does, and answers that are all alike.
use Rattle.std.specs.Prelude.{◌≡◌, List, ℕ, ◌≤◌, ◌<◌, ℤ, pos, length, get_or}
use Rattle.store.specs.declared.Counts.{Counts}
use Rattle.store.specs.Cell.{Cell}
use Rattle.store.specs.Layout.{ClosedStore, width_of}
use Rattle.batch.specs.Codes.{AddCode}
use Rattle.batch.specs.Promise.{InTurn}

-- adding the cell c to the closed store s leaves the closed store t and gives r
pub record Turn (n : Counts) (c : Cell) (s t : List ℕ) (r : ℤ) : Type 0 where
  pub code : AddCode n c s t r
  pub closed : ClosedStore (width_of s) n t

-- the first k statements are added to the closed store s, which is again a closed store as wide, and no other answer is touched
pub record Answered (n : Counts) (xs : List ℕ) (before after : List ℤ) (s t : List ℕ) (k : ℕ) : Type 0 where
  pub added : InTurn n xs after s k t
  pub closed : ClosedStore (width_of s) n t
  pub wide : width_of t ≡ width_of s
  pub long : length after ≡ length before
  pub past : (i : ℕ) → k ≤ i → get_or after i (pos 0) ≡ get_or before i (pos 0)

-- the first k answers are r, and no other is touched
pub record Filled (r : ℤ) (k : ℕ) (before after : List ℤ) : Type 0 where
  pub long : length after ≡ length before
  pub first : (i : ℕ) → i < k → get_or after i (pos 0) ≡ r
  pub past : (i : ℕ) → k ≤ i → get_or after i (pos 0) ≡ get_or before i (pos 0)
