-- What reading, listing, printing and checking an accepted sheet give: its violations in the published reading.
use Rattle.std.specs.Prelude.{◌≡◌, ◌↔◌, List, ◌++◌, ℕ, ℤ, length, take, drop}
use Rattle.logic.specs.Number.{One}
use Rattle.store.specs.Layout.{small}
use Rattle.rule.specs.declared.Finding.{Finding}
use Rattle.rule.specs.declared.Rule.{Rule}
use Rattle.rule.specs.Second.{Second}
use Rattle.judge.specs.Promise.{filled}
use Rattle.text.specs.Split.{lines}
use Rattle.field.specs.Names.{counts_of}
use Rattle.saying.specs.Meant.{meaning_of}
use Rattle.sheet.specs.Reading.{Reading}
use Rattle.sheet.specs.Reading.{accepted_as}
use Rattle.sheet.specs.Meant.{lines_mean, meanings}
use Rattle.sheet.specs.Demand3.{Sizes}
use Rattle.sheet.specs.Promise.{Prints, Reads, findings_text, print_limit, total_text}
use Rattle.sheet.specs.Said.{RuleAt, Said, StatedIn}
use Rattle.listing.specs.Promise.{ReadsInto}
use Rattle.saltreeve.specs.Check.{Checks, ChecksIn}
use Rattle.handover.specs.Room.{InRoom}
use Rattle.paper.specs.Interpretation.{Interpretation}
use Rattle.paper.specs.Satisfied.{ICSatisfies, ValueBreaks}
use Rattle.verdict.specs.Violations.{MinimalModel, Violations}

-- the answer for a sheet with these violations: what it declares, its rules, and how many they are
abbrev pub answer_of : Said → List Finding → Reading
answer_of x fs = accepted_as (counts_of x.names) (length x.rules) (length fs)

-- the text for a sheet with these violations: a line each, 200 at most, and how many they are
abbrev pub text_of : Said → List Finding → List ℕ
text_of x fs = findings_text x (take print_limit fs) ++ total_text (length fs)

-- of a sheet that is accepted with a store of row width W, and says x: one field a sentence
pub record SheetVerdict (W : ℕ) (sheet : List ℕ) (x : Said) : Type 1 where
  -- its rules are those of its rule lines, in their order, as these mean them
  pub meant : meanings x.rules ≡ lines_mean x.names 2 (drop 1 (lines sheet))
  -- what violates a rule over its statements violates every rule that means the same
  pub by-meaning : (u v : Rule) {I : Interpretation} {a : ℕ} {b : Second} → meaning_of u ≡ meaning_of v → ValueBreaks (counts_of x.names) (MinimalModel x) I u.nodes u.head a b
      → ValueBreaks (counts_of x.names) (MinimalModel x) I v.nodes v.head a b
  -- there is a model with minimal equality of its statements, so that "in every model" is said of one at least
  pub exists : (I : Interpretation) × MinimalModel x I
  -- there is the list of its violations, and no other
  pub list : List Finding
  pub violations : Violations x list
  pub no_other : {fs : List Finding} → Violations x fs → fs ≡ list
  -- the statements IC-satisfy a rule exactly if none of the list is a violation of it
  pub satisfied : {k : ℕ} {u : Rule} → RuleAt x k u → ICSatisfies (counts_of x.names) (StatedIn x) u ↔ ((f : Finding) → One f list → ¬ (f.rule ≡ k))
  -- reading the sheet counts them
  pub read : {s t : List ℕ} {r : Reading} → Sizes W s → Reads sheet s t r → r ≡ answer_of x list
  -- reading it with a list lists them
  pub listed : {s t : List ℕ} {before after : List Finding} {r : Reading} → Sizes W s → ReadsInto sheet s t before after r → (r ≡ answer_of x list) × (after ≡ filled list before)
  -- printing prints them
  pub printed : {text : List ℕ} → Prints W sheet text → text ≡ text_of x list
  -- `saltreeve_check`, which has the smaller store, puts their text into the room, or says that it is too long
  pub checked : {room exit : List ℕ} {r : ℤ} → W ≡ small → Checks sheet room exit r → InRoom (λ (text : List ℕ). text ≡ text_of x list) room exit r
  -- so does `saltreeve_check_in`, with a lent store
  pub checked-in : {s t room exit : List ℕ} {r : ℤ} → Sizes W s → ChecksIn sheet s t room exit r → InRoom (λ (text : List ℕ). text ≡ text_of x list) room exit r
