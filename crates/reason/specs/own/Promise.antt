-- What the search promises: a part of the statements from which a cell follows, and from no part of it with one taken out.
use Rattle.std.specs.Prelude.{◌≡◌, false, List, ℕ, ◌*◌, ◌≤◌, ◌<◌, length}
use Rattle.row.specs.own.Row.{row_hasb}
use Rattle.store.specs.declared.Counts.{Counts}
use Rattle.store.specs.Cell.{Cell, Follows}
use Rattle.store.specs.Layout.{Fits, item_limit}
use Rattle.store.specs.own.Laid.{widest}
use Rattle.reason.specs.own.Code.{AllWithin, Coded}
use Rattle.reason.specs.Part.{Minimal}
use Rattle.reason.specs.own.Picked.{mark_words, picked}

-- the cell c follows from the statements that the numbers state
abbrev pub FollowsCoded : Counts → Cell → List ℕ → Type 0
FollowsCoded n c codes = Follows n (Coded codes) c

-- no mark is set
abbrev pub Clear : List ℕ → Type 0
Clear marks = (j : ℕ) → row_hasb marks j ≡ false

-- the words of a table of steps: a row of W words for each place that such a row has a bit for
abbrev pub table_words : ℕ → ℕ
table_words W = item_limit W * W

-- the words t have room for such a table
pub record Lent (W : ℕ) (t : List ℕ) : Type 0 where
  pub wide : W ≤ widest
  pub long : table_words W ≤ length t

-- the cell c follows from the numbers given, which are within the counts, no mark is set yet, and the table has room for the items
pub record Sought (W : ℕ) (n : Counts) (c : Cell) (codes table marks : List ℕ) : Type 0 where
  pub fits : Fits W n
  pub within : AllWithin n codes
  pub few : length codes ≤ 64 * mark_words
  pub follows : FollowsCoded n c codes
  pub some : 0 < W
  pub lent : Lent W table
  pub wide : length marks ≡ mark_words
  pub clear : Clear marks

-- the numbers marked are a reason for the cell c
pub record Reasoned (n : Counts) (c : Cell) (codes marks : List ℕ) : Type 0 where
  pub wide : length marks ≡ mark_words
  pub minimal : Minimal (FollowsCoded n c) codes (picked marks codes)
