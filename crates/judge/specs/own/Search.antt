-- A search for findings, as a writer steps it.
use Rattle.std.specs.Prelude.{◌≡◌, List, [], ◌∷◌, ◌++◌, ℕ, min, ◌≤◌, ◌<◌, length}
use Rattle.logic.specs.Lowest.{Lowest}
use Rattle.store.specs.declared.Counts.{Counts}
use Rattle.store.specs.Cell.{Cell}
use Rattle.store.specs.Layout.{ClosedStore, Holds, width_of}
use Rattle.store.specs.own.Laid.{Laid}
use Rattle.store.specs.declared.Layout.{Layout}
use Rattle.judge.specs.declared.Cursor.{Cursor}
use Rattle.rule.specs.declared.Finding.{Finding}
use Rattle.judge.specs.declared.Prepared.{Prepared}
use Rattle.rule.specs.declared.Rule.{Rule}
use Rattle.judge.specs.declared.RuleRefusal.{RuleRefusal}
use Rattle.judge.specs.declared.Search.{Search}
use Rattle.std.specs.Prelude.{Err, Ok}
use Rattle.judge.specs.own.Cursor.{Ahead, current_of}
use Rattle.rule.specs.Findings.{Findings}
use Rattle.judge.specs.Promise.{Judged, RuleFault, number}

-- the cells of the words s, as the search reads them
abbrev pub CellsOf : List ℕ → Search → Cell → Type 0
CellsOf s c = Holds c.at.width c.counts s

-- the cursor of a search
abbrev pub cursor_of : Search → Cursor
cursor_of c = c.cursor

-- the search can go on in the words s
pub record Ready (s : List ℕ) (c : Search) : Type 0 where
  pub laid : Laid c.at s
  pub store : ClosedStore c.at.width c.counts s

-- the findings from the search on are exactly this list, the finding at hand first
pub record Coming (s : List ℕ) (c : Search) (fs : List Finding) : Type 0 where
  pub ahead : Ahead (CellsOf s c) c.counts c.finding.rule (cursor_of c) fs
  pub here : c.finding ≡ current_of c.finding.rule (cursor_of c)

-- d is one finding further than c
pub record Stepped (s : List ℕ) (c d : Search) : Type 0 where
  pub ready : Ready s d
  pub next : (f : Finding) (fs : List Finding) → Coming s c (f ∷ fs) → Coming s d fs

-- the search that began at `first` has met these findings, in order, and stands at c
pub data Met (s : List ℕ) (first : Search) : List Finding → Search → Type 0 where
  start : Met s first [] first
  more : {fs : List Finding} {c d : Search} → Met s first fs c → Stepped s c d → Met s first (fs ++ c.finding ∷ []) d

-- how a listing of the rule u begins, in a list of `room` places: refused, with nothing to write; or at the first of all findings
pub data Opens (s : List ℕ) (n : Counts) (k : ℕ) (u : Rule) (room : ℕ) (p : Prepared) : Type 0 where
  refused : {r : RuleRefusal} → Lowest (RuleFault (width_of s) n u s) (number r) → p.answer ≡ Err r → p.write ≡ 0 → Opens s n k u room p
  judged : {fs : List Finding} → Judged (width_of s) n u s → Findings (Holds (width_of s) n s) n k u fs → p.answer ≡ Ok (length fs) → p.write ≡ min (length fs) room → Coming s p.search fs
      → Opens s n k u room p

-- the same with what the writer asks
pub record Prepares (s : List ℕ) (n : Counts) (k : ℕ) (u : Rule) (room : ℕ) (p : Prepared) : Type 0 where
  pub fits : p.write ≤ room
  pub ready : 0 < p.write → Ready s p.search
  pub opens : Opens s n k u room p

-- the search at a cursor
abbrev pub search_at : Cursor → ℕ → Layout → Counts → Search
search_at c k at n = record { finding = current_of k c; cursor = c; at = at; counts = n }

-- a listing of the rule u in a closed store begins at the first of all its findings
pub record Starts (s : List ℕ) (at : Layout) (n : Counts) (k : ℕ) (u : Rule) (room : ℕ) (p : Prepared) : Type 0 where
  pub list : List Finding
  pub findings : Findings (Holds at.width n s) n k u list
  pub answer : p.answer ≡ Ok (length list)
  pub write : p.write ≡ min (length list) room
  pub coming : Coming s p.search list
  pub ready : Ready s p.search

-- a refusal writes nothing
pub record Stops (r : RuleRefusal) (p : Prepared) : Type 0 where
  pub answer : p.answer ≡ Err r
  pub write : p.write ≡ 0
