-- From the rules that are judged in turn to the page. Assumes nothing.
use Rattle.std.specs.Prelude.{◌≡◌, refl, true, List, [], ◌∷◌, ◌++◌, ℕ, ◌+◌, length, Option, Some, Ok, Err}
use Rattle.std.proofs.Common.{sym, ap, ◌∙◌, subst}
use Rattle.std.proofs.lemmas.List.Edits.{sets}
use Rattle.row.specs.Bit.{Words}
use Rattle.text.specs.Text.{Wrote}
use Rattle.store.specs.Layout.{size, width_of}
use Rattle.store.specs.laws.Cells.{keeps-unique}
use Rattle.sheet.specs.declared.Ended.{Ended}
use Rattle.sheet.specs.declared.Refused.{Refused}
use Rattle.sheet.specs.declared.RuleLine.{RuleLine}
use Rattle.field.specs.Names.{counts_of}
use Rattle.sheet.specs.own.Pass.{Judges, found_rule}
use Rattle.sheet.specs.Reading.{refused_as}
use Rattle.sheet.specs.Promise.{FindingsIn, Held, Leaves, Prints, refused_text, total_text}
use Rattle.sheet.specs.Promise.Prints.{refused, accepted}
use Rattle.sheet.specs.Promise.Reads.{wrong_size as wrong-read, refused as refused_read, accepted as accepted_read}
use Rattle.sheet.specs.Said.{Outcome, Said, SheetRule, outcome}
use Rattle.sheet.specs.own.Stands.{Opens, kept_table}
use Rattle.field.specs.own.Table.{Table, names_of}
use Rattle.sheet.specs.laws.Unique.{prints-unique, reads-unique}
use Rattle.sheet.specs.laws.Count.{Turn, opens-held, opens-judges, opens-outcome, turn-rules}
use Rattle.printed.specs.declared.Tally.{Tally}
use Rattle.printed.specs.own.Lines.{Tallied}
use Rattle.report.specs.own.Pages.{Filled, JudgedAll, Printed}
use Rattle.report.specs.Promise.{Pages, PagesIn, PrintsIn, ReadInto}
use Rattle.report.specs.Promise.PrintsIn.{wrong_size, printed}
use Rattle.report.specs.laws.Printed.{printed-all, printed-more}

-- one rule more is judged, in its turn
pub turn-printed : {W : ℕ} {sheet : List ℕ} {t : Table} {x : Said} {s room mid exit : List ℕ} {b r : Tally} {o : Option RuleLine} {q : RuleLine} {n at : ℕ} (w : Turn sheet t x (λ (done : List SheetRule). Printed W x s done room at mid b) o n) → o ≡ Some q
    → counts_of x.names ≡ t.counts → x.names ≡ names_of sheet t → Tallied W s t.counts n q.rule (names_of sheet t) q.line mid b exit r → Printed W x s (w.done ++ found_rule q ∷ []) room at exit r
turn-printed {q = q} w f c m z = let y = turn-rules w q f in printed-more (found_rule q) y.0 y.1 w.holds (rw (c, m, ← w.number) z)

module _ {W : ℕ} {sheet numbers t : List ℕ} {e : Ended} (w : Filled W sheet numbers t e) where
  -- a refused sheet
  pub page-refused : {room exit : List ℕ} {r : ℕ} → {q : Refused} → e.read ≡ Err q → Wrote room 0 (refused_text q.line q.why) exit r → Pages W sheet room exit r
  page-refused {q = q} z h = record { text = refused_text q.line q.why; prints = refused {n = q.line} {k = q.why} {x = w.opens.said} (w.opens.ends ∙ rw z); wrote = h }

  -- an accepted one
  module _ {v : Unit {0}} (z : e.read ≡ Ok v) where
    pub page-judges : Judges W sheet (kept_table numbers e) t
    page-judges = opens-judges w.opens z

    pub page-accepted : {room mid exit : List ℕ} {b : Tally} {r : ℕ} → Words 64 t → JudgedAll W sheet (kept_table numbers e) t room mid b → Wrote mid b.at (total_text b.total) exit r → Pages W sheet room exit r
    page-accepted u j h =
        let o = opens-outcome w.opens z in
        let a = printed-all o u (opens-held w.opens z) (j.printed w.opens.said o w.opens.names) h in
        record { text = a.0; prints = a.1; wrote = a.2 }

-- ---- in a lent store

-- the store is as reading the sheet leaves it
leaves-read : {sheet s t text : List ℕ} → length s ≡ size (width_of s) → Words 64 t → Leaves (width_of s) (outcome (width_of s) sheet) s t → Prints (width_of s) sheet text → ReadInto sheet s t
leaves-read {s = s} {t = t} l v h (refused {n = n} {k = k} o) = record { answer = refused_as n k; reads = refused_read l o (subst (λ (z : Outcome). Leaves (width_of s) z s t) o h) }
leaves-read {s = s} {t = t} l v h (accepted {x = x} {fs = fs} o w d f) =
    let e : Held (width_of s) x t = subst (λ (z : Outcome). Leaves (width_of s) z s t) o h in
    record { answer = _; reads = accepted_read l o e (subst (λ (z : List ℕ). FindingsIn (width_of s) x z fs) (keeps-unique w v d e) f) }

-- a store of another length
pub page-size : {sheet s room exit : List ℕ} {r : ℕ} → ¬ (length s ≡ size (width_of s)) → Wrote room 0 (refused_text 0 1) exit r → PagesIn sheet s s room exit r
page-size z h = record { text = refused_text 0 1; prints = wrong_size z; left = record { answer = refused_as 0 1; reads = wrong-read z refl }; wrote = h }

-- a store that the sheet was read into
pub page-read : {sheet s numbers t room exit : List ℕ} {e : Ended} {r : ℕ} → length s ≡ size (width_of s) → Words 64 t → Opens (width_of s) sheet s numbers t e → Pages (width_of s) sheet room exit r
    → PagesIn sheet s t room exit r
page-read {s = s} {t = t} l v w p =
    record {
      text = p.text;
      prints = printed l p.prints;
      left = leaves-read l v (subst (λ (z : Outcome). Leaves (width_of s) z s t) (sym w.ends) w.leaves) p.prints;
      wrote = p.wrote;
    }

-- ---- one result

-- the text for a sheet and a store
pub prints-in-unique : {sheet s text other : List ℕ} → PrintsIn sheet s text → PrintsIn sheet s other → text ≡ other
prints-in-unique (wrong_size z) (wrong_size y) = refl
prints-in-unique (wrong_size z) (printed l q) = absurd (z l)
prints-in-unique (printed l q) (wrong_size z) = absurd (z l)
prints-in-unique (printed l p) (printed h q) = prints-unique p q

-- what reading leaves
pub read-into-unique : {sheet s t u : List ℕ} → Words 64 t → Words 64 u → ReadInto sheet s t → ReadInto sheet s u → t ≡ u
read-into-unique v w a b = (reads-unique v w a.reads b.reads).0

-- one text leaves one room and one length
wrote-unique : {room text more exit other : List ℕ} {r q : ℕ} → text ≡ more → Wrote room 0 text exit r → Wrote room 0 more other q → (exit ≡ other) × (r ≡ q)
wrote-unique {room = room} e a b = (a.here ∙ ap (λ (t : List ℕ). sets room 0 t) e ∙ sym b.here, a.next ∙ ap (λ (t : List ℕ). 0 + length t) e ∙ sym b.next)

-- the page allows one result
pub pages-unique : {W : ℕ} {sheet room exit other : List ℕ} {r q : ℕ} → Pages W sheet room exit r → Pages W sheet room other q → (exit ≡ other) × (r ≡ q)
pages-unique a b = wrote-unique (prints-unique a.prints b.prints) a.wrote b.wrote

-- so does the page in a lent store, with one store afterwards
pub pages-in-unique : {sheet s t u room exit other : List ℕ} {r q : ℕ} → Words 64 t → Words 64 u → PagesIn sheet s t room exit r → PagesIn sheet s u room other q → (t ≡ u) × (exit ≡ other) × (r ≡ q)
pages-in-unique v w a b = let e = wrote-unique (prints-in-unique a.prints b.prints) a.wrote b.wrote in (read-into-unique v w a.left b.left, e.0, e.1)
