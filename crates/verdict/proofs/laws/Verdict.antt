-- Whatever is read, listed, printed or checked of an accepted sheet, it is its violations. Assumes nothing.
use Rattle.std.specs.Prelude.{◌≡◌, List, ℕ, ℤ}
use Rattle.std.proofs.Common.{sym, ap, ap₂, ◌∙◌, subst}
use Rattle.store.specs.Cell.{Follows}
use Rattle.store.specs.Layout.{size}
use Rattle.rule.specs.declared.Finding.{Finding}
use Rattle.judge.specs.Promise.{filled}
use Rattle.field.specs.Names.{counts_of}
use Rattle.sheet.specs.Reading.{Reading}
use Rattle.sheet.specs.Demand3.{Sizes}
use Rattle.sheet.specs.Promise.{FindingsFrom, FindingsIn, Held, Prints, Reads}
use Rattle.sheet.specs.Promise.Prints.{refused as refused_print, accepted as accepted_print}
use Rattle.sheet.specs.Promise.Reads.{wrong_size, refused as refused_read, accepted as accepted_read}
use Rattle.sheet.specs.Said.{Said, StatedIn, outcome}
use Rattle.sheet.specs.Said.Outcome.{accepted}
use Rattle.sheet.specs.laws.Meant.{sheet-meant}
use Rattle.sheet.specs.laws.Pass.{not-both, said_of}
use Rattle.listing.specs.Promise.{ReadsInto}
use Rattle.listing.specs.Promise.ReadsInto.{refused as refused_list, accepted as accepted_list}
use Rattle.report.specs.Promise.{PrintsIn}
use Rattle.report.specs.Promise.PrintsIn.{wrong_size as wrong-store, printed}
use Rattle.handover.specs.Room.{InRoom}
use Rattle.handover.specs.Room.InRoom.{too_long, written}
use Rattle.paper.specs.laws.Canonical.{Settled, canonical, settled-obeys}
use Rattle.paper.proofs.laws.TheoremB.{canonical-minimal}
use Rattle.paper.specs.laws.Told.{settled_lines, settled-store}
use Rattle.verdict.specs.Verdict.{SheetVerdict, answer_of, text_of}
use Rattle.verdict.specs.Violations.{Violations}
use Rattle.verdict.specs.laws.Declared.{stated-within}
use Rattle.verdict.specs.laws.Meant.{breaks-meant}
use Rattle.verdict.specs.laws.Told.{all-findings}
use Rattle.verdict.specs.laws.Violations.{found-violations, satisfied-none, violations-unique}

-- a text in a room is in it by whatever is true of it
room_by : {P Q : List ℕ → Type 0} {room exit : List ℕ} {r : ℤ} → ((text : List ℕ) → P text → Q text) → InRoom P room exit r → InRoom Q room exit r
room_by f (too_long {text = text} p l e) = too_long (f text p) l e
room_by f (written {text = text} p l e) = written (f text p) l e

module _ (W : ℕ) (sheet : List ℕ) {x : Said} (o : outcome W sheet ≡ accepted x) where
  settled : Settled (counts_of x.names) (StatedIn x) (Follows (counts_of x.names) (StatedIn x))
  settled = settled_lines (stated-within W sheet o)

  all : (fs : List Finding) × FindingsFrom (Follows (counts_of x.names) (StatedIn x)) (counts_of x.names) 0 x.rules fs
  all = all-findings (settled-obeys settled) settled.tell 0 x.rules

  are : Violations x all.0
  are = found-violations W sheet o settled all.1

  -- what a run found in its store is the same list
  found : {y : Said} {t : List ℕ} {fs : List Finding} → outcome W sheet ≡ accepted y → Held W y t → FindingsIn W y t fs → (y ≡ x) × (fs ≡ all.0)
  found {y} {t} {fs} i h m =
      let same : y ≡ x = ap said_of (sym i ∙ o) in
      (same, violations-unique (found-violations W sheet o (settled-store (subst (λ (z : Said). Held W z t) same h)) (subst (λ (z : Said). FindingsIn W z t fs) same m)) are)

  read : {s t : List ℕ} {r : Reading} → Sizes W s → Reads sheet s t r → r ≡ answer_of x all.0
  read l (wrong_size z e) = absurd (z (l.long ∙ sym (ap size l.width)))
  read l (refused_read h i p) = absurd (not-both (sym (rw l.width at i) ∙ o))
  read l (accepted_read h i p m) = let z = found (rw l.width at i) (rw l.width at p) (rw l.width at m) in ap₂ answer_of z.0 z.1

  listed : {s t : List ℕ} {before after : List Finding} {r : Reading} → Sizes W s → ReadsInto sheet s t before after r → (r ≡ answer_of x all.0) × (after ≡ filled all.0 before)
  listed l (refused_list (wrong_size z q) e) = absurd (z (l.long ∙ sym (ap size l.width)))
  listed l (refused_list (refused_read h i p) e) = absurd (not-both (sym (rw l.width at i) ∙ o))
  listed {before = before} l (accepted_list h i p m e) = let z = found (rw l.width at i) (rw l.width at p) (rw l.width at m) in (ap₂ answer_of z.0 z.1, e ∙ ap (λ (fs : List Finding). filled fs before) z.1)

  prints : {text : List ℕ} → Prints W sheet text → text ≡ text_of x all.0
  prints (refused_print i) = absurd (not-both (sym i ∙ o))
  prints (accepted_print i w p m) = let z = found i p m in ap₂ text_of z.0 z.1

  prints-in : {s text : List ℕ} → Sizes W s → PrintsIn sheet s text → text ≡ text_of x all.0
  prints-in l (wrong-store z) = absurd (z (l.long ∙ sym (ap size l.width)))
  prints-in l (printed h p) = prints (rw l.width at p)

  -- the verdict on every accepted sheet
  pub sheet-verdict : SheetVerdict W sheet x
  sheet-verdict = record {
    meant = sheet-meant W sheet x o;
    by-meaning = λ u v e h. breaks-meant u v e h;
    exists = (canonical settled, canonical-minimal settled);
    list = all.0;
    violations = are;
    no_other = λ v. violations-unique v are;
    satisfied = λ p. satisfied-none W sheet o settled are p;
    read = read;
    listed = listed;
    printed = prints;
    checked = λ e c. room_by (λ text p. prints (subst (λ (v : ℕ). Prints v sheet text) (sym e) p)) c;
    checked-in = λ l c. room_by (λ text p. prints-in l p) c.text;
  }
