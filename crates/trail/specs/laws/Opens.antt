-- From what reading a sheet gives to how a reading with a list begins. Assumes nothing.
use Rattle.std.specs.Prelude.{◌≡◌, refl, List, [], ℕ, min, length}
use Rattle.std.proofs.Common.{sym, ap, ◌∙◌, subst, arith}
use Rattle.store.specs.declared.Counts.{Counts}
use Rattle.store.specs.Layout.{ClosedStore, Holds, size, width_of}
use Rattle.store.specs.laws.Width.{width_same}
use Rattle.rule.specs.declared.Finding.{Finding}
use Rattle.std.specs.Prelude.{Ok, Err}
use Rattle.sheet.specs.declared.Accepted.{Accepted}
use Rattle.sheet.specs.declared.Refused.{Refused}
use Rattle.sheet.specs.Reading.{Reading, accepted_as}
use Rattle.sheet.specs.declared.Whole.{Whole}
use Rattle.field.specs.Names.{counts_of}
use Rattle.sheet.specs.own.Pass.{Passing, Paused, Wholly}
use Rattle.sheet.specs.Promise.{FindingsFrom, FindingsIn, Held, Reads}
use Rattle.sheet.specs.Promise.Reads.{wrong_size, refused as refused_read, accepted as accepted_read}
use Rattle.sheet.specs.Said.{Said, outcome}
use Rattle.sheet.specs.Said.Outcome.{accepted as accepted_sheet}
use Rattle.field.specs.own.Table.{Table, names_of, table_of}
use Rattle.sheet.specs.laws.Pass.{passing-since}
use Rattle.field.specs.laws.Table.{counts_of-names_of}
use Rattle.trail.specs.declared.Trail.{Trail}
use Rattle.trail.specs.own.Trail.{Opens, Sought}
use Rattle.trail.specs.own.Trail.Begins.{refused, accepted}

-- the findings that an answer counts
abbrev total_in : Reading → ℕ
total_in (Ok a) = a.findings
total_in (Err r) = 0

-- 1 for a refusal, 0 for an accepted sheet
abbrev pub is_refused : Reading → ℕ
is_refused (Ok a) = 0
is_refused (Err r) = 1

-- a sheet that was read and accepted
record AcceptedRead (sheet s t : List ℕ) (r : Reading) : Type 0 where
  said : Said
  list : List Finding
  long : length s ≡ size (width_of s)
  ends : outcome (width_of s) sheet ≡ accepted_sheet said
  held : Held (width_of s) said t
  findings : FindingsIn (width_of s) said t list
  answer : r ≡ accepted_as (counts_of said.names) (length said.rules) (length list)

-- an answer that is no refusal is of that form
reads-accepted : {sheet s t : List ℕ} {r : Reading} → is_refused r ≡ 0 → Reads sheet s t r → AcceptedRead sheet s t r
reads-accepted e (wrong_size z q) = absurd (omega (arith, e))
reads-accepted e (refused_read l o p) = absurd (omega (arith, e))
reads-accepted e (accepted_read {x = x} {fs = fs} l o h a) = record { said = x; list = fs; long = l; ends = o; held = h; findings = a; answer = refl }

module _ {sheet s t numbers : List ℕ} {w : Whole} (z : Wholly sheet s t numbers w) where
  -- the names as they were read
  abbrev table : Table
  table = table_of numbers w.counts

  -- the sheet is accepted
  module _ {a : Accepted} (e : w.answer ≡ Ok a) where
    -- how it was read
    read-so : AcceptedRead sheet s t w.answer
    read-so = reads-accepted (ap is_refused e) z.reads

    -- its names are those of the table
    named : read-so.said.names ≡ names_of sheet table
    named = z.names read-so.said read-so.long read-so.ends

    counted : counts_of read-so.said.names ≡ w.counts
    counted = ap counts_of named ∙ counts_of-names_of sheet table z.tidy

    -- its rules are read from where they begin
    passing : Passing sheet table read-so.said [] w.start.at w.start.line
    passing = passing-since (width_of s) sheet table read-so.said w.start (z.start read-so.said read-so.long read-so.ends) read-so.ends named

    -- the words are as wide as they were
    wide : width_of s ≡ width_of t
    wide = width_same s t (read-so.long ∙ sym read-so.held.store.long)

    -- what going through its rules asks
    pub opens-store : ClosedStore (width_of t) w.counts t
    opens-store = subst (λ (k : ℕ). ClosedStore k w.counts t) wide (subst (λ (c : Counts). ClosedStore (width_of s) c t) counted read-so.held.store)

    pub opens-paused : Paused sheet table w.start.at w.start.line
    opens-paused = record { all = read-so.said; before = []; passing = passing }

    -- the reading with a list begins at the first of all findings
    pub opens-accepted : {c : Trail} {i : ℕ} (room : ℕ) → i ≡ min a.findings room → Sought sheet table t w.start.at w.start.line 0 c
        → Opens sheet s t numbers room (record { answer = w.answer; write = i; counts = w.counts; trail = c })
    opens-accepted {c} {i} room h f =
        let total : a.findings ≡ length read-so.list = ap total_in (sym e ∙ read-so.answer) in
        record {
          fits = omega (arith, h);
          tidy = z.tidy;
          going = λ _. f.going;
          begins = accepted read-so.long read-so.ends read-so.held read-so.findings read-so.answer (h ∙ ap (λ (j : ℕ). min j room) total)
              (f.onward read-so.list (record {
                said = read-so.said;
                done = [];
                passing = passing;
                number = refl;
                findings = subst (λ (i : ℕ). FindingsFrom (Holds i w.counts t) w.counts 0 read-so.said.rules read-so.list) wide
                    (subst (λ (c : Counts). FindingsFrom (Holds (width_of s) c t) c 0 read-so.said.rules read-so.list) counted read-so.findings);
              }));
        }

  -- it is refused
  pub opens-refused : {c : Trail} {r : Refused} (room : ℕ) → w.answer ≡ Err r → Opens sheet s t numbers room (record { answer = w.answer; write = 0; counts = w.counts; trail = c })
  opens-refused room e = record { fits = omega arith; tidy = z.tidy; going = λ h. absurd (omega arith); begins = refused (subst (Reads sheet s t) e z.reads) e refl }
