-- Tallies of 64 items, one word for each number: bit y of word j tells whether j or more are counted for item y of them.
use Rattle.std.specs.Prelude.{◌≡◌, true, List, ℕ, suc, ◌+◌, ◌-◌, ◌/◌, ◌%◌, ◌≤◌, ◌<◌, length, get_or}
use Rattle.std.specs.Int.Bits.{bit_or, bit_and}
use Rattle.logic.specs.Number.{Number}
use Rattle.row.specs.Bit.{Has}
use Rattle.row.specs.own.Row.{RowHas}
use Rattle.store.specs.declared.Counts.{Counts}
use Rattle.store.specs.Cell.{Cell, DeclaredRole}
use Rattle.store.specs.Cell.Cell.{Link}
use Rattle.rule.specs.declared.RoleUse.{RoleUse}
use Rattle.rule.specs.Form.{count_limit}

-- how many words the tallies have: from none to the largest count
abbrev pub tally_words : ℕ
tally_words = count_limit + 1

-- tallies count k articles of the role use: it is the inverse of a declared role, and k is from 2 to the largest count
pub record Countable (n : Counts) (k : ℕ) (u : RoleUse) : Type 0 where
  pub inverse : u.inverse ≡ true
  pub role : DeclaredRole n u.role.0
  pub some : 2 ≤ k
  pub few : k ≤ count_limit

-- word 0 has every bit, the other words have none
pub record Blank (t : List ℕ) : Type 0 where
  pub len : length t ≡ tally_words
  pub all : (y : ℕ) → y < 64 → Has (get_or t 0 0) y
  pub none : (j y : ℕ) → ¬ (Has (get_or t (suc j) 0) y)

-- each word above word j, up to word k, has taken on what the word before it and w have in common; the words up to j are as they were
pub record Counted (j k w : ℕ) (s t : List ℕ) : Type 0 where
  pub len : length t ≡ length s
  pub words : (i : ℕ) → j < i → i ≤ k → get_or t i 0 ≡ bit_or (get_or s i 0) (bit_and (get_or s (i - 1) 0) w)
  pub below : (i : ℕ) → i ≤ j → get_or t i 0 ≡ get_or s i 0

-- bit y of the word w tells whether k or more have the property P
pub record Tells (k : ℕ) (P : ℕ → Type 0) (w y : ℕ) : Type 0 where
  pub number : ℕ
  pub counted : Number P number
  pub sound : Has w y → k ≤ number
  pub whole : k ≤ number → Has w y

-- the bits of the word w tell, for each x of the 64 items of word h, whether k or more have the property P x
abbrev pub AllTell : ℕ → ℕ → (ℕ → ℕ → Type 0) → ℕ → Type 0
AllTell h k P w = (x : ℕ) → x / 64 ≡ h → Tells k (P x) w (x % 64)

-- c is an item below i of the row p, and the role r links it to x
abbrev pub LinkedBelow : (Cell → Type 0) → ℕ → List ℕ → ℕ → ℕ → ℕ → Type 0
LinkedBelow C r p i x c = (c < i) × C (Link r c x) × RowHas p c

-- the words of the tallies, up to word k, tell of the 64 items of word h how many items below i of the row p the role r links to them
pub record Tallied (C : Cell → Type 0) (r : ℕ) (p : List ℕ) (h k i : ℕ) (t : List ℕ) : Type 0 where
  pub len : length t ≡ tally_words
  pub tells : (j : ℕ) → j ≤ k → AllTell h j (LinkedBelow C r p i) (get_or t j 0)
