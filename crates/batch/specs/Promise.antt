-- What adding a list of statements promises: each answer is what adding that one statement, at that point, gives.
use Rattle.std.specs.Prelude.{◌≡◌, List, ℕ, suc, ◌+◌, ◌*◌, ◌/◌, ◌≤◌, min, ℤ, pos, length, get_or}
use Rattle.row.specs.Bit.{Words}
use Rattle.store.specs.declared.Counts.{Counts}
use Rattle.store.specs.Cell.{Cell}
use Rattle.batch.specs.Codes.{AddCode, cell_of_kind}

-- the cell that statement k of the list states: four words, its kind and three numbers
abbrev pub cell_numbered : List ℕ → ℕ → Cell
cell_numbered xs k = cell_of_kind (get_or xs (4 * k) 0) (get_or xs (4 * k + 1) 0) (get_or xs (4 * k + 2) 0) (get_or xs (4 * k + 3) 0)

-- the first k statements, added to the words s one after the other, leave t, and their answers stand in the list
pub data InTurn (n : Counts) (xs : List ℕ) (answers : List ℤ) (s : List ℕ) : ℕ → List ℕ → Type 0 where
  none : InTurn n xs answers s 0 s
  more : {k : ℕ} {t u : List ℕ} → InTurn n xs answers s k t → AddCode n (cell_numbered xs k) t u (get_or answers k (pos 0)) → Words 64 u → InTurn n xs answers s (suc k) u

-- of the statements as many as have a place for their answer are added; no other answer is touched
pub record AddsAll (n : Counts) (xs : List ℕ) (before after : List ℤ) (s t : List ℕ) (k : ℕ) : Type 0 where
  pub taken : k ≡ min (length xs / 4) (length before)
  pub added : InTurn n xs after s k t
  pub long : length after ≡ length before
  pub past : (i : ℕ) → k ≤ i → get_or after i (pos 0) ≡ get_or before i (pos 0)
