-- From the parts of the search to the promise. Assumes nothing.
use Rattle.std.specs.Prelude.{◌≡◌, refl, Ok, Err, List, ℕ, length}
use Rattle.std.proofs.Common.{sym, ap, ◌∙◌, subst}
use Rattle.store.specs.declared.Counts.{Counts}
use Rattle.store.specs.Cell.{Cell}
use Rattle.store.specs.Layout.{Holds, size, width_of}
use Rattle.sheet.specs.declared.Ended.{Ended}
use Rattle.sheet.specs.declared.Refused.{Refused}
use Rattle.field.specs.Names.{counts_of}
use Rattle.sheet.specs.own.Pass.{Accepts}
use Rattle.sheet.specs.Said.{Said}
use Rattle.sheet.specs.own.Stands.{Opens, kept_table}
use Rattle.sheet.specs.laws.Count.{opens-held, opens-outcome, whole-refused}
use Rattle.sheet.specs.laws.Pass.{accepted-same}
use Rattle.field.specs.own.Table.{Table}
use Rattle.field.specs.laws.Table.{counts_of-names_of}
use Rattle.why.specs.Explained.{Explained}
use Rattle.sheet.specs.Reading.{refusal_as}
use Rattle.why.specs.Listed.{lines_of}
use Rattle.why.specs.laws.Listed.{listed-none}
use Rattle.why.specs.own.Asked.{Asked, Of, ReasonMarked}
use Rattle.why.specs.own.Writing.{Answered, Lists}
use Rattle.reason.specs.own.Picked.{picked}
use Rattle.why.specs.Promise.{Explains}
use Rattle.why.specs.Promise.Explains.{refused, not-true, found}
use Rattle.why.specs.Reason.{FollowsFrom, Reason}

-- a reason that is marked and listed
pub answered : {sheet : List ℕ} {t : Table} {c : Cell} {marks before after : List ℕ} {r : ℕ} → ReasonMarked sheet t c marks → Lists sheet t marks before after r → Answered sheet t c before after r
answered {marks = marks} h l W x o m = record { lines = picked marks x.statements; reason = h W x o m; listed = l.listed W x o m; total = l.total W x o m }

-- the table counts the names of the sheet
pub opens-counts : {W : ℕ} {sheet s numbers u : List ℕ} {e : Ended} (w : Opens W sheet s numbers u e) → counts_of w.said.names ≡ e.kept.counts
opens-counts {sheet} {numbers = numbers} {e = e} w = ap counts_of w.names ∙ counts_of-names_of sheet (kept_table numbers e) w.tidy

module _ {sheet s numbers u : List ℕ} {e : Ended} (w : Opens (width_of s) sheet s numbers u e) (long : length s ≡ size (width_of s)) (c : Cell) (before : List ℕ) where
  -- a refused sheet
  pub explains-refused : {q : Refused} → e.read ≡ Err q → Explains sheet s u c before before (Err q)
  explains-refused z = refused (whole-refused refl long w z).reads refl

  -- an accepted one
  module _ {v : Unit {0}} (z : e.read ≡ Ok v) where
    counts-are : counts_of w.said.names ≡ e.kept.counts
    counts-are = opens-counts w

    explains-accepts : Accepts sheet (kept_table numbers e)
    explains-accepts = record { width = width_of s; said = w.said; ends = opens-outcome w z; names = w.names }

    -- the cell is not true
    pub explains-not : ¬ (Holds (width_of s) e.kept.counts u c) → Explains sheet s u c before before (Err (refusal_as 0 24))
    explains-not h = not-true long (opens-outcome w z) (opens-held w z) (rw counts-are h) refl

    -- it is true: it follows
    explains-followed : Holds (width_of s) e.kept.counts u c → Of sheet (kept_table numbers e) (λ x. FollowsFrom e.kept.counts c x.statements)
    explains-followed h W x o m =
        subst (λ (y : Said). FollowsFrom e.kept.counts c y.statements) (accepted-same (width_of s) W sheet (opens-outcome w z) o)
        (subst (λ (n : Counts). FollowsFrom n c w.said.statements) counts-are ((opens-held w z).sound c (rw counts-are h)))

    pub explains-asked : Holds (width_of s) e.kept.counts u c → Asked sheet (kept_table numbers e) c
    explains-asked h = record { sheet_said = explains-accepts; follows = explains-followed h }

    -- a reason is found
    pub explains-found : {after : List ℕ} {r : ℕ} → Answered sheet (kept_table numbers e) c before after r → Explains sheet s u c before after (Ok r)
    explains-found {after} h =
        let o = opens-outcome w z in
        let a = h (width_of s) w.said o w.names in
        subst (λ (k : ℕ). Explains sheet s u c before after (Ok k)) (sym a.total)
        (found long o (opens-held w z) (subst (λ (n : Counts). Reason n c w.said.statements a.lines) (sym counts-are) a.reason) a.listed)

-- a list of no place gets what another does
pub explains-none : {sheet s t : List ℕ} {c : Cell} {before after room : List ℕ} {r : Explained} → length room ≡ 0 → Explains sheet s t c before after r → Explains sheet s t c room room r
explains-none z (refused h e) = refused h refl
explains-none z (not-true l o h f e) = not-true l o h f refl
explains-none {room = room} z (found {lines = lines} l o h r e) = found l o h r (listed-none (lines_of lines) room z)
