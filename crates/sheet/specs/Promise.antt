-- What reading a sheet promises: what the lent store holds afterwards, the findings of the sheet's rules, and the printed text.
use Rattle.std.specs.Prelude.{◌≡◌, Bool, true, false, List, [], ◌∷◌, ◌++◌, ℕ, zero, suc, length, get_or, take, replicate}
use Rattle.row.specs.Bit.{Words}
use Rattle.text.specs.Bytes.{bytes}
use Rattle.text.specs.Text.{decimal}
use Rattle.store.specs.declared.Counts.{Counts}
use Rattle.store.specs.Cell.{Cell}
use Rattle.store.specs.Layout.{Holds, size, width_of}
use Rattle.store.specs.Keeps.{Keeps}
use Rattle.rule.specs.declared.Finding.{Finding}
use Rattle.rule.specs.Second.{Second}
use Rattle.std.specs.Prelude.{None, Some}
use Rattle.rule.specs.Findings.{Findings}
use Rattle.sheet.specs.Reading.{Reading}
use Rattle.sheet.specs.Reading.{accepted_as, refused_as}
use Rattle.line.specs.Fault.{begun}
use Rattle.field.specs.Names.{Names, counts_of}
use Rattle.sheet.specs.Said.{Said, SheetRule, StatedIn, Outcome, line_of, marks_of, outcome}
use Rattle.sheet.specs.Said.Outcome.{refused as refused_at, accepted as accepted_sheet}

-- the most findings that are printed
abbrev pub print_limit : ℕ
print_limit = 200

-- the store, of row width W, holds exactly what follows from what was said
abbrev pub Held : ℕ → Said → List ℕ → Type 0
Held W x t = Keeps W (counts_of x.names) (StatedIn x) t

-- the store at a faulty line: all zero until the first accepted statement or rule makes it fresh
abbrev pub Stopped : ℕ → Bool → Said → List ℕ → Type 0
Stopped W false x t = t ≡ replicate (size W) 0
Stopped W true x t = Held W x t

-- what the lent store s has become, t: untouched where the sheet is refused as a whole
abbrev pub Leaves : ℕ → Outcome → List ℕ → List ℕ → Type 0
Leaves W (refused_at zero k x) s t = t ≡ s
Leaves W (refused_at (suc n) k x) s t = Stopped W (begun (marks_of x)) x t
Leaves W (accepted_sheet x) s t = Held W x t

-- the findings of rules in the cells C, by rule: the first rule has the number k
pub data FindingsFrom (C : Cell → Type 0) (n : Counts) : ℕ → List SheetRule → List Finding → Type 0 where
  none : {k : ℕ} → FindingsFrom C n k [] []
  more : {k : ℕ} {r : SheetRule} {rs : List SheetRule} {fs gs : List Finding} → Findings C n k r.rule fs → FindingsFrom C n (suc k) rs gs → FindingsFrom C n k (r ∷ rs) (fs ++ gs)

-- the findings of a sheet's rules, numbered from 0 in the order of the sheet, in the store t, of row width W
abbrev pub FindingsIn : ℕ → Said → List ℕ → List Finding → Type 0
FindingsIn W x t fs = FindingsFrom (Holds W (counts_of x.names) t) (counts_of x.names) 0 x.rules fs

-- the answer of reading the sheet into the store s, which becomes t. Of the store only its length is asked: 1
pub data Reads (sheet s t : List ℕ) : Reading → Type 0 where
  wrong_size : ¬ (length s ≡ size (width_of s)) → t ≡ s → Reads sheet s t (refused_as 0 1)
  refused : {n k : ℕ} {x : Said} → length s ≡ size (width_of s) → outcome (width_of s) sheet ≡ refused_at n k x → Leaves (width_of s) (refused_at n k x) s t → Reads sheet s t (refused_as n k)
  accepted : {x : Said} {fs : List Finding} → length s ≡ size (width_of s) → outcome (width_of s) sheet ≡ accepted_sheet x → Leaves (width_of s) (accepted_sheet x) s t → FindingsIn (width_of s) x t fs
      → Reads sheet s t (accepted_as (counts_of x.names) (length x.rules) (length fs))

-- a field after a tab
abbrev pub tabbed : List ℕ → List ℕ
tabbed f = 9 ∷ f

-- the second item of a finding, if there is one
abbrev pub second_text : Names → Second → List ℕ
second_text n None = []
second_text n (Some j) = tabbed (get_or n.items j.0 [])

-- `finding`, the rule's line number, item, second item if any
unfoldable pub finding_text : Said → Finding → List ℕ
finding_text x f =
    bytes "finding" ++ tabbed (decimal (line_of x f.rule)) ++ tabbed (get_or x.names.items f.item.0 [])
    ++ second_text x.names f.second ++ (10 ∷ [])

-- a line for each
unfoldable pub findings_text : Said → List Finding → List ℕ
findings_text x [] = []
findings_text x (f ∷ fs) = finding_text x f ++ findings_text x fs

-- `total` and the count of all findings
unfoldable pub total_text : ℕ → List ℕ
total_text n = bytes "total" ++ tabbed (decimal n) ++ (10 ∷ [])

-- `refused`, line, number
unfoldable pub refused_text : ℕ → ℕ → List ℕ
refused_text n k = bytes "refused" ++ tabbed (decimal n) ++ tabbed (decimal k) ++ (10 ∷ [])

-- the text that is printed for a sheet, with a store of row width W: of an accepted one its findings, in a store that holds exactly what follows, 200 at most, and their total
pub data Prints (W : ℕ) (sheet : List ℕ) : List ℕ → Type 0 where
  refused : {n k : ℕ} {x : Said} → outcome W sheet ≡ refused_at n k x → Prints W sheet (refused_text n k)
  accepted : {x : Said} {t : List ℕ} {fs : List Finding} → outcome W sheet ≡ accepted_sheet x → Words 64 t → Held W x t → FindingsIn W x t fs
      → Prints W sheet (findings_text x (take print_limit fs) ++ total_text (length fs))
