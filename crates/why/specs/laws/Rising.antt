-- The numbers of a reason's lines rise, and a cell that holds by reflexivity has an empty reason. Assumes nothing.
use Rattle.std.specs.Prelude.{◌≡◌, refl, ◌⊎◌, Bool, true, false, cond, List, [], ◌∷◌, ◌++◌, ℕ, ◌+◌, ◌<◌}
use Rattle.std.proofs.Common.{sym, subst, inl, inr, arith}
use Rattle.logic.specs.Number.{One}
use Rattle.logic.specs.Number.One.{first, later}
use Rattle.logic.specs.laws.Number.{one-cases, one_none}
use Rattle.text.specs.Split.{fields}
use Rattle.store.specs.declared.Counts.{Counts}
use Rattle.store.specs.Cell.{Cell, Follows, Nothing}
use Rattle.field.specs.declared.Form.{Form}
use Rattle.field.specs.declared.Form.TheVariants as form
use Rattle.field.specs.Due.{none as empty}
use Rattle.sheet.specs.Said.{Outcome, Said, SheetStatement, line_said, nothing, outcome, outcome_from, saying}
use Rattle.stated.specs.Stated.{statement_of}
use Rattle.sheet.specs.Said.Outcome.{accepted}
use Rattle.field.specs.Words.{body_of, form_of}
use Rattle.sheet.specs.laws.Pass.{accepted-start, accepted-step, said_of}
use Rattle.why.specs.Listed.{lines_of}
use Rattle.reason.specs.Part.{Part}
use Rattle.reason.specs.Part.Part.{none as no_part, keep, leave}
use Rattle.why.specs.Reason.{Reason}
use Rattle.why.specs.Rising.{Rising}
use Rattle.why.specs.Rising.Rising.{none, more}
use Rattle.reason.specs.laws.Part.{one-either, part-nothing, part-one}
use Rattle.why.specs.laws.Listed.{lines_more}
use Rattle.why.specs.laws.Reason.{follows-more}

-- ---- the lines of a sheet

-- the lines so far rise, and all are before k
record Before (k : ℕ) (xs : List ℕ) : Type 0 where
  rising : Rising xs
  below : (y : ℕ) → One y xs → y < k

rising-last : {xs : List ℕ} (k : ℕ) → Rising xs → ((y : ℕ) → One y xs → y < k) → Rising (xs ++ k ∷ [])
rising-last k none f = more (λ y o. absurd (one_none o)) none
rising-last k (more {x = x} {xs = xs} g r) f = more (λ y o. by y (one-either xs o)) (rising-last k r (λ y o. f y (later o)))
  where
    last : (y : ℕ) → (y ≡ k) ⊎ One y [] → x < y
    last y (inl e) = omega (arith, f x first, e)
    last y (inr o) = absurd (one_none o)

    by : (y : ℕ) → One y xs ⊎ One y (k ∷ []) → x < y
    by y (inl o) = g y o
    by y (inr o) = last y (one-cases o)

before_same : {k : ℕ} {xs : List ℕ} → Before k xs → Before (k + 1) xs
before_same b = record { rising = b.rising; below = λ y o. let h = b.below y o in omega arith }

before_more : {k : ℕ} {xs : List ℕ} → Before k xs → Before (k + 1) (xs ++ k ∷ [])
before_more {k} {xs} b = record { rising = rising-last k b.rising b.below; below = λ y o. by y (one-either xs o) }
  where
    last : (y : ℕ) → (y ≡ k) ⊎ One y [] → y < k + 1
    last y (inl e) = omega arith
    last y (inr o) = absurd (one_none o)

    by : (y : ℕ) → One y xs ⊎ One y (k ∷ []) → y < k + 1
    by y (inl o) = let h = b.below y o in omega arith
    by y (inr o) = last y (one-cases o)

line_before : (k : ℕ) (s : Said) (l : List ℕ) → Before k (lines_of s.statements) → Before (k + 1) (lines_of (line_said k s l).statements)
unfolding line_said
line_before k s l b = go (empty l) (form_of (fields l))
  where
    go : (t : Bool) (f : Form) → Before (k + 1) (lines_of (cond t s (saying k s f (body_of (fields l)))).statements)
    go true f = before_same b
    go false form.Concept = before_same b
    go false form.Role = before_same b
    go false form.Item = before_same b
    go false (form.Statement w) = subst (λ (xs : List ℕ). Before (k + 1) xs) (sym (lines_more s.statements (record { line = k; statement = statement_of s.names w (body_of (fields l)) }))) (before_more b)
    go false (form.Rule w) = before_same b
    go false form.Bare = before_same b
    go false form.Unknown = before_same b

from-rise : (k : ℕ) (s x : Said) (ls : List (List ℕ)) → Before k (lines_of s.statements) → outcome_from k s ls ≡ accepted x → Rising (lines_of x.statements)
unfolding outcome_from
from-rise k s x [] b e = subst (λ (o : Outcome). Rising (lines_of (said_of o).statements)) e b.rising
from-rise k s x (l ∷ ls) b e = from-rise (k + 1) (line_said k s l) x ls (line_before k s l b) (accepted-step k s x l ls e).1

-- the statement lines of an accepted sheet have rising numbers
statements-rise : (W : ℕ) (sheet : List ℕ) (x : Said) → outcome W sheet ≡ accepted x → Rising (lines_of x.statements)
statements-rise W sheet x o = let z = accepted-start W sheet x o in from-rise 2 (nothing z.0) x _ (record { rising = none; below = λ y q. absurd (one_none q) }) z.2

-- ---- a part of them

part-lines : {ps xs : List SheetStatement} → Part ps xs → Part (lines_of ps) (lines_of xs)
part-lines no_part = no_part
part-lines (keep p) = keep (part-lines p)
part-lines (leave p) = leave (part-lines p)

part-rises : {ps xs : List ℕ} → Part ps xs → Rising xs → Rising ps
part-rises no_part none = none
part-rises (keep p) (more f r) = more (λ y o. f y (part-one p o)) (part-rises p r)
part-rises (leave p) (more f r) = part-rises p r

-- so do those of a reason
pub reason-rises : (W : ℕ) (sheet : List ℕ) {x : Said} {n : Counts} {c : Cell} {lines : List SheetStatement} → outcome W sheet ≡ accepted x → Reason n c x.statements lines → Rising (lines_of lines)
reason-rises W sheet {x} o r = part-rises (part-lines r.part) (statements-rise W sheet x o)

-- ---- reflexivity

-- a cell that follows from nothing has an empty reason
pub reason-reflexive : {n : Counts} {c : Cell} {all lines : List SheetStatement} → Reason n c all lines → Follows n Nothing c → lines ≡ []
reason-reflexive {lines = []} r f = refl
reason-reflexive {lines = l ∷ ls} r f = absurd (r.needed [] (part-nothing (l ∷ ls)) (omega arith) (follows-more (λ d x. absurd x) f))
