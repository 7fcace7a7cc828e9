-- A trail along the findings of all rules of a sheet, as a writer steps it.
use Rattle.std.specs.Prelude.{◌≡◌, List, [], ◌∷◌, ◌++◌, ℕ, min, ◌≤◌, ◌<◌, length, drop}
use Rattle.store.specs.Layout.{ClosedStore, Holds, size, width_of}
use Rattle.rule.specs.declared.Finding.{Finding}
use Rattle.judge.specs.own.Search.{Coming, Ready}
use Rattle.sheet.specs.Reading.{accepted_as, refused_as}
use Rattle.sheet.specs.own.Pass.{Passing, Paused}
use Rattle.field.specs.Names.{counts_of}
use Rattle.sheet.specs.Promise.{FindingsFrom, FindingsIn, Held, Reads}
use Rattle.sheet.specs.Said.{Said, SheetRule, outcome}
use Rattle.sheet.specs.Said.Outcome.{accepted as accepted_sheet}
use Rattle.field.specs.own.Table.{Table, Tidy, table_of}
use Rattle.trail.specs.declared.Opening.{Opening}
use Rattle.trail.specs.declared.Trail.{Trail}

-- these are the findings of the rules past a place of the sheet, where a line with the number given begins; the first of the rules has the number k
pub record Beyond (sheet s : List ℕ) (names : Table) (past line k : ℕ) (fs : List Finding) : Type 0 where
  pub said : Said
  pub done : List SheetRule
  pub passing : Passing sheet names said done past line
  pub number : k ≡ length done
  pub findings : FindingsFrom (Holds (width_of s) names.counts s) names.counts k (drop k said.rules) fs

-- the findings from the trail on are exactly this list, the finding at hand first: those that its rule has left, then those of the rules past it
pub record Onward (sheet : List ℕ) (names : Table) (s : List ℕ) (c : Trail) (fs : List Finding) : Type 0 where
  pub here : List Finding
  pub later : List Finding
  pub all : fs ≡ here ++ later
  pub more : c.more ≡ length here
  pub coming : 0 < c.more → Coming s c.search here
  pub beyond : Beyond sheet s names c.past c.line c.number later
  pub end : c.more ≡ 0 → later ≡ []

-- the trail can go on in the words s
pub record Going (sheet : List ℕ) (names : Table) (s : List ℕ) (c : Trail) : Type 0 where
  pub ready : 0 < c.more → Ready s c.search
  pub store : ClosedStore (width_of s) names.counts s
  pub paused : Paused sheet names c.past c.line
  pub few : c.number ≤ c.past

-- d is one finding further than c
pub record Steps (sheet : List ℕ) (names : Table) (s : List ℕ) (c d : Trail) : Type 0 where
  pub going : Going sheet names s d
  pub next : (f : Finding) (fs : List Finding) → Onward sheet names s c (f ∷ fs) → Onward sheet names s d fs

-- the trail that began at `first` has met these findings, in order, and stands at c
pub data Went (sheet : List ℕ) (names : Table) (s : List ℕ) (first : Trail) : List Finding → Trail → Type 0 where
  start : Went sheet names s first [] first
  more : {fs : List Finding} {c d : Trail} → Went sheet names s first fs c → Steps sheet names s c d → Went sheet names s first (fs ++ c.search.finding ∷ []) d

-- a trail with no finding left
pub record Ended (past line k : ℕ) (c : Trail) : Type 0 where
  pub more : c.more ≡ 0
  pub past-kept : c.past ≡ past
  pub line_kept : c.line ≡ line
  pub number-kept : c.number ≡ k

-- the trail at the first finding of the rules past a place of the sheet
pub record Sought (sheet : List ℕ) (names : Table) (s : List ℕ) (past line k : ℕ) (c : Trail) : Type 0 where
  pub going : Going sheet names s c
  pub onward : (fs : List Finding) → Beyond sheet s names past line k fs → Onward sheet names s c fs

-- how a reading with a list of `room` places begins: refused, with nothing to write; or at the first of all findings
pub data Begins (sheet s t numbers : List ℕ) (room : ℕ) (p : Opening) : Type 0 where
  refused : {n k : ℕ} → Reads sheet s t (refused_as n k) → p.answer ≡ refused_as n k → p.write ≡ 0 → Begins sheet s t numbers room p
  accepted : {x : Said} {fs : List Finding} → length s ≡ size (width_of s) → outcome (width_of s) sheet ≡ accepted_sheet x → Held (width_of s) x t → FindingsIn (width_of s) x t fs
      → p.answer ≡ accepted_as (counts_of x.names) (length x.rules) (length fs) → p.write ≡ min (length fs) room → Onward sheet (table_of numbers p.counts) t p.trail fs → Begins sheet s t numbers room p

-- the same with what the writer asks
pub record Opens (sheet s t numbers : List ℕ) (room : ℕ) (p : Opening) : Type 0 where
  pub fits : p.write ≤ room
  pub tidy : Tidy sheet (table_of numbers p.counts)
  pub going : 0 < p.write → Going sheet (table_of numbers p.counts) t p.trail
  pub begins : Begins sheet s t numbers room p
