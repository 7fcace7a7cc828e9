-- What the conversion of a store promises, for every two lists of words and all counts: document 02, "512 items".
use Rattle.std.specs.Prelude.{◌≡◌, ◌↔◌, cond, List, ℕ, Result, Ok, Err, ◌≤◌, ◌<◌, eqb, length, get_or}
use Rattle.logic.specs.Lowest.{Lowest, NoneApplies}
use Rattle.logic.specs.Number.{Number}
use Rattle.row.specs.Bit.{Has, Words}
use Rattle.store.specs.declared.Counts.{Counts}
use Rattle.store.specs.Cell.{Cell, DeclaredItem}
use Rattle.store.specs.Layout.{Cellular, ClosedStore, Holds, Sized, item_limit, large, size, small, width_of}
use Rattle.convert.specs.declared.Refusal.{Refusal}
use Rattle.convert.specs.declared.Refusal.TheVariants.{Size, NotClosed, TooMany}

-- the words of an item row in the store of the other size
unfoldable pub other_width : ℕ → ℕ
other_width W = cond (eqb W large) small large

-- what a conversion gives: the number of cells, or a refusal
abbrev pub Answer : Type 0
Answer = Result ℕ Refusal

-- the number of a refusal
abbrev pub number : Refusal → ℕ
number Size = 1
number NotClosed = 2
number TooMany = 26

-- what refusal 1 asks: the source s has a store's length and the counts are within its limits, and the target t has the other length
pub record Pair (n : Counts) (s t : List ℕ) : Type 0 where
  pub source : Sized (width_of s) n s
  pub target : length t ≡ size (other_width (width_of s))

-- what refusal 26 is for: an item is declared that a store whose item rows have W words has no place for
pub record NoPlace (W : ℕ) (n : Counts) : Type 0 where
  pub item : ℕ
  pub declared : DeclaredItem n item
  pub over : item_limit W ≤ item

-- which numbers apply to a conversion of s to t
pub data ConvertFault (n : Counts) (s t : List ℕ) : ℕ → Type 0 where
  wrong_size : ¬ (Pair n s t) → ConvertFault n s t 1
  not-closed : ¬ (ClosedStore (width_of s) n s) → ConvertFault n s t 2
  too_many : NoPlace (other_width (width_of s)) n → ConvertFault n s t 26

-- the cells of s, by rows of W words, are those of t, by rows of W' words, and every other bit of t is 0
pub record Moved (W W' : ℕ) (n : Counts) (s t : List ℕ) : Type 0 where
  pub long : length t ≡ size W'
  pub cells : (c : Cell) → Holds W n s c ↔ Holds W' n t c
  pub clean : (i k : ℕ) → Has (get_or t i 0) k → Cellular W' n i k

-- a conversion of s: the words t become u, and the answer is r
pub data Converts (n : Counts) (s t u : List ℕ) : Answer → Type 0 where
  refused : {k : Refusal} → Lowest (ConvertFault n s t) (number k) → u ≡ t → Converts n s t u (Err k)
  moved : {m : ℕ} → NoneApplies (ConvertFault n s t) → Moved (width_of s) (other_width (width_of s)) n s u → Number (Holds (width_of s) n s) m → Converts n s t u (Ok m)

-- What document 02 says of conversions, one field a sentence.
pub record Conversion (n : Counts) : Type 0 where
  -- a conversion leaves a closed store of the other size
  pub closed : {s t u : List ℕ} {m : ℕ} → Converts n s t u (Ok m) → ClosedStore (other_width (width_of s)) n u
  -- every closed smaller store can be moved to the larger length
  pub there : {s t : List ℕ} → ClosedStore small n s → length t ≡ size large → NoneApplies (ConvertFault n s t)
  -- going back is possible exactly if no item number is 128 or more
  pub back : {s t : List ℕ} → ClosedStore large n s → length t ≡ size small → NoneApplies (ConvertFault n s t) ↔ ((a : ℕ) → DeclaredItem n a → a < item_limit small)
  -- and is refused by 26 if there is one: the counts are held against the source alone
  pub too_many : {s t : List ℕ} → ClosedStore large n s → length t ≡ size small → NoPlace small n → Lowest (ConvertFault n s t) 26
  -- what was moved can be moved back
  pub again : {s t u v : List ℕ} {m : ℕ} → Converts n s t u (Ok m) → length v ≡ length s → NoneApplies (ConvertFault n u v)
  -- there and back gives the same words, and the same number of cells
  pub same-words : {s t u v w : List ℕ} {m k : ℕ} → Words 64 s → Words 64 w → Converts n s t u (Ok m) → Converts n u v w (Ok k) → (w ≡ s) × (k ≡ m)
  -- any two results that are allowed are equal
  pub one-result : {s t u v : List ℕ} {r q : Answer} → Words 64 u → Words 64 v → Converts n s t u r → Converts n s t v q → (u ≡ v) × (r ≡ q)
  -- a refusal leaves the target untouched
  pub untouched : {s t u : List ℕ} {k : Refusal} → Converts n s t u (Err k) → u ≡ t
