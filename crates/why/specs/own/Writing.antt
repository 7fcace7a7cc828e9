-- How the caller's list is written.
use Rattle.std.specs.Prelude.{◌≡◌, Bool, cond, List, ℕ, ◌+◌, length, set}
use Rattle.store.specs.declared.Counts.{Counts}
use Rattle.store.specs.Cell.{Cell}
use Rattle.field.specs.own.Table.{Table}
use Rattle.sheet.specs.Said.{Said, SheetStatement}
use Rattle.reason.specs.own.Picked.{picked}
use Rattle.why.specs.own.Asked.{Of}
use Rattle.why.specs.Reason.{Reason}
use Rattle.why.specs.Listed.{Listed, lines_of}

-- a number is put into the list at a place, if `on` and if the list reaches so far; the place after it
pub record PutIf (on : Bool) (i line : ℕ) (b a : List ℕ) (r : ℕ) : Type 0 where
  pub list : a ≡ cond on (set b i line) b
  pub next : r ≡ cond on (i + 1) i

-- the lines of the statements marked are listed, and there are r of them
pub record Lists (sheet : List ℕ) (t : Table) (marks before after : List ℕ) (r : ℕ) : Type 0 where
  pub listed : Of sheet t (λ x. Listed (lines_of (picked marks x.statements)) before after)
  pub total : Of sheet t (λ x. r ≡ length (picked marks x.statements))

-- for what the sheet says, x: a reason for the cell c is listed, of r lines
pub record Answer (x : Said) (n : Counts) (c : Cell) (before after : List ℕ) (r : ℕ) : Type 0 where
  pub lines : List SheetStatement
  pub reason : Reason n c x.statements lines
  pub listed : Listed (lines_of lines) before after
  pub total : r ≡ length lines

-- the same of the accepted sheet with the names of the table t
abbrev pub Answered : List ℕ → Table → Cell → List ℕ → List ℕ → ℕ → Type 0
Answered sheet t c before after r = Of sheet t (λ x. Answer x t.counts c before after r)
