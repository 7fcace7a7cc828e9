-- What reading a sheet with a list of findings promises, for every sheet, every store and every list.
use Rattle.std.specs.Prelude.{◌≡◌, List, ℕ, length}
use Rattle.store.specs.Layout.{size, width_of}
use Rattle.rule.specs.declared.Finding.{Finding}
use Rattle.judge.specs.Promise.{filled}
use Rattle.sheet.specs.Reading.{Reading}
use Rattle.sheet.specs.Reading.{accepted_as, refused_as}
use Rattle.field.specs.Names.{counts_of}
use Rattle.sheet.specs.Promise.{FindingsIn, Held, Reads}
use Rattle.sheet.specs.Said.{Said, outcome}
use Rattle.sheet.specs.Said.Outcome.{accepted as accepted_sheet}

-- the answer of reading the sheet into the store s, which becomes t, and the findings of its rules into a list: a refused sheet leaves the list as it was; of an accepted one the first findings
-- are written as far as the list reaches, what is past them is as it was, and the total counts all
pub data ReadsInto (sheet s t : List ℕ) (before after : List Finding) : Reading → Type 0 where
  refused : {n k : ℕ} → Reads sheet s t (refused_as n k) → after ≡ before → ReadsInto sheet s t before after (refused_as n k)
  accepted : {x : Said} {fs : List Finding} → length s ≡ size (width_of s) → outcome (width_of s) sheet ≡ accepted_sheet x → Held (width_of s) x t → FindingsIn (width_of s) x t fs
      → after ≡ filled fs before
      → ReadsInto sheet s t before after (accepted_as (counts_of x.names) (length x.rules) (length fs))
