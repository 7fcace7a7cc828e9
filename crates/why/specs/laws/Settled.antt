-- What is settled of an answer: the store, the refusal, and whether there is a reason. Which reason it is, is not. Assumes nothing.
use Rattle.std.specs.Prelude.{◌≡◌, refl, List, ℕ, length}
use Rattle.std.proofs.Common.{sym, ap, ◌∙◌, subst}
use Rattle.row.specs.Bit.{Words}
use Rattle.store.specs.Cell.{Cell}
use Rattle.store.specs.Layout.{Holds, size, width_of}
use Rattle.store.specs.laws.Cells.{keeps-unique}
use Rattle.sheet.specs.Reading.{Reading, refused_as}
use Rattle.std.specs.Prelude.{Ok, Err}
use Rattle.field.specs.Names.{counts_of}
use Rattle.sheet.specs.Promise.{Held, Reads}
use Rattle.sheet.specs.Promise.Reads.{wrong_size, refused as refused_read, accepted as accepted_read}
use Rattle.sheet.specs.Said.{Said, SheetStatement, outcome}
use Rattle.sheet.specs.Said.Outcome.{accepted}
use Rattle.sheet.specs.laws.Pass.{not-both, said_of}
use Rattle.sheet.specs.laws.Unique.{reads-unique}
use Rattle.why.specs.Explained.{Explained}
use Rattle.why.specs.Promise.{Explains}
use Rattle.why.specs.Promise.Explains.{refused, not-true, found}
use Rattle.why.specs.Settled.{SameAnswer}
use Rattle.why.specs.Reason.{Reason}
use Rattle.reason.specs.laws.Part.{part-one}
use Rattle.why.specs.laws.Reason.{follows-grows}

-- an accepted sheet is not refused
abbrev pub IsRefused : Reading → Type 0
IsRefused (Ok a) = ⊥
IsRefused (Err r) = Unit {0}

pub not-refused : {sheet s t : List ℕ} {r : Reading} (x : Said) → length s ≡ size (width_of s) → outcome (width_of s) sheet ≡ accepted x → Reads sheet s t r → IsRefused r → ⊥
not-refused x l o (wrong_size z e) i = z l
not-refused x l o (refused_read m e h) i = not-both (sym e ∙ o)
not-refused x l o (accepted_read m e h f) i = i

pub same_store : (W : ℕ) (sheet : List ℕ) {t u : List ℕ} (x y : Said) → Words 64 t → Words 64 u → outcome W sheet ≡ accepted x → outcome W sheet ≡ accepted y → Held W x t → Held W y u → t ≡ u
same_store W sheet {u = u} x y wt wu o p h g = keeps-unique wt wu h (subst (λ (z : Said). Held W z u) (ap said_of (sym p ∙ o)) g)

-- a reason for a cell is one for its being true
reason-holds : (W : ℕ) {t : List ℕ} {c : Cell} (x : Said) {lines : List SheetStatement} → Held W x t → Reason (counts_of x.names) c x.statements lines → Holds W (counts_of x.names) t c
reason-holds W {c = c} x {lines} h r = h.whole c (follows-grows (counts_of x.names) c lines x.statements (λ l o. part-one r.part o) r.enough)

not-and-found : (W : ℕ) (sheet : List ℕ) {t u : List ℕ} {c : Cell} (x y : Said) {lines : List SheetStatement} → outcome W sheet ≡ accepted x → outcome W sheet ≡ accepted y → Held W x t → Held W y u
    → ¬ (Holds W (counts_of x.names) t c) → Reason (counts_of y.names) c y.statements lines → ⊥
not-and-found W sheet {u = u} {c = c} x y {lines} o p h g f r =
    let e = ap said_of (sym p ∙ o) in
    let r' : Reason (counts_of x.names) c x.statements lines = subst (λ (z : Said). Reason (counts_of z.names) c z.statements lines) e r in
    f (reason-holds W x h r')

-- the line of a refusal
abbrev line_in : Reading → ℕ
line_in (Ok a) = 0
line_in (Err r) = r.line

-- its number
abbrev why_in : Reading → ℕ
why_in (Ok a) = 0
why_in (Err r) = r.why

pub reading-same : {n k i j : ℕ} → refused_as n k ≡ refused_as i j → (n ≡ i) × (k ≡ j)
reading-same e = (ap line_in e, ap why_in e)

pub explains-settled : {sheet s t u : List ℕ} {c : Cell} {before after other : List ℕ} {r q : Explained} → Words 64 t → Words 64 u → Explains sheet s t c before after r → Explains sheet s u c before other q
    → (t ≡ u) × SameAnswer r q
explains-settled {sheet} {s} wt wu (refused a e) (refused b f) = let z = reads-unique wt wu a b in (z.0, reading-same z.1)
explains-settled {sheet} {s} wt wu (refused a e) (not-true {x = y} l o h g f) = absurd (not-refused y l o a tt)
explains-settled {sheet} {s} wt wu (refused a e) (found {x = y} l o h g f) = absurd (not-refused y l o a tt)
explains-settled {sheet} {s} wt wu (not-true {x = x} l o h g f) (refused b e) = absurd (not-refused x l o b tt)
explains-settled {sheet} {s} wt wu (not-true {x = x} l o h g f) (not-true {x = y} m p i j k) = (same_store (width_of s) sheet x y wt wu o p h i, (refl, refl))
explains-settled {sheet} {s} wt wu (not-true {x = x} l o h g f) (found {x = y} m p i j k) = absurd (not-and-found (width_of s) sheet x y o p h i g j)
explains-settled {sheet} {s} wt wu (found {x = x} l o h g f) (refused b e) = absurd (not-refused x l o b tt)
explains-settled {sheet} {s} wt wu (found {x = x} l o h g f) (not-true {x = y} m p i j k) = absurd (not-and-found (width_of s) sheet y x p o i h j g)
explains-settled {sheet} {s} wt wu (found {x = x} l o h g f) (found {x = y} m p i j k) = (same_store (width_of s) sheet x y wt wu o p h i, tt)
