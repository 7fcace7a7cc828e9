-- The statements of a sheet as numbers.
use Rattle.std.specs.Prelude.{◌≡◌, List, [], ◌∷◌, ℕ, ◌*◌, ◌≤◌, ◌<◌, length, take}
use Rattle.store.specs.declared.Counts.{Counts}
use Rattle.store.specs.Cell.{Within, cell_of}
use Rattle.store.specs.Layout.{Fits}
use Rattle.field.specs.own.Table.{Table}
use Rattle.sheet.specs.Said.{SheetStatement}
use Rattle.reason.specs.own.Code.{cell_at}
use Rattle.reason.specs.own.Picked.{mark_words}
use Rattle.reason.specs.own.Promise.{Lent}
use Rattle.why.specs.own.Asked.{Of}

-- the most statements of a sheet
abbrev pub statement_limit : ℕ
statement_limit = 64 * mark_words

-- the numbers state the cells of the lines, one after the other, and these are within the counts
pub data Numbers (n : Counts) : List ℕ → List SheetStatement → Type 0 where
  none : Numbers n [] []
  more : {k : ℕ} {l : SheetStatement} {ks : List ℕ} {ls : List SheetStatement} → cell_at k ≡ cell_of l.statement → Within n (cell_of l.statement) → Numbers n ks ls → Numbers n (k ∷ ks) (l ∷ ls)

-- the first r numbers are those of the statements of the sheet, all of them
pub record Gathered (sheet : List ℕ) (t : Table) (codes : List ℕ) (r : ℕ) : Type 0 where
  pub numbers : Of sheet t (λ x. Numbers t.counts (take r codes) x.statements)
  pub few : r ≤ statement_limit
  pub long : length codes ≡ statement_limit

-- the words lent for the search have room for the items: a row of W words for each
pub record Searched (W : ℕ) (n : Counts) (table : List ℕ) : Type 0 where
  pub fits : Fits W n
  pub some : 0 < W
  pub lent : Lent W table
