-- Laws of the sheet check. Assumes nothing.
use Rattle.std.specs.Prelude.{◌≡◌, refl, List, ◌++◌, ℕ, ◌≤◌, ℤ, pos, length, drop, take}
use Rattle.std.proofs.Common.{sym, subst, inr, arith}
use Rattle.row.specs.Bit.{Words}
use Rattle.text.specs.Text.{Wrote}
use Rattle.text.specs.laws.Text.{wrote-text, wrote-whole}
use Rattle.store.specs.Layout.{small, width_of}
use Rattle.sheet.specs.Promise.{Prints}
use Rattle.sheet.specs.laws.Unique.{prints-unique}
use Rattle.report.specs.Promise.{Pages, PagesIn, PrintsIn, text_limit}
use Rattle.report.specs.laws.Page.{prints-in-unique, read-into-unique}
use Rattle.report.specs.laws.Short.{prints-in-short, prints-short}
use Rattle.saltreeve.specs.Check.{Checks, ChecksIn}
use Rattle.handover.specs.Room.{InRoom}
use Rattle.handover.specs.Room.InRoom.{written}
use Rattle.handover.specs.own.Room.{Just}
use Rattle.handover.specs.laws.Room.{in-room, room-unique, room-written}

-- ---- the text of a sheet is handed over

module _ {sheet own page room exit : List ℕ} {n : ℕ} {r : ℤ} where
  pub check-by : Pages small sheet own page n → n ≤ length own → InRoom (Just (take n page)) room exit r → Checks sheet room exit r
  check-by w l h = in-room (subst (Prints small sheet) (sym (wrote-text w.wrote l)) w.prints) h

  pub check-in-by : {s t : List ℕ} → PagesIn sheet s t own page n → n ≤ length own → InRoom (Just (take n page)) room exit r → ChecksIn sheet s t room exit r
  check-in-by {s} w l h = record { store = w.left; text = in-room (subst (PrintsIn sheet s) (sym (wrote-text w.wrote l)) w.prints) h }

-- the text was written into a room that is long enough for it
in_place : {room exit : List ℕ} {n : ℕ} {Text : List ℕ → Type 0} {text : List ℕ} → Text text → Wrote room 0 text exit n → n ≤ length room → InRoom Text room exit (pos n)
in_place {room} {exit} {n} {Text} {text} h w l =
    let e : length text ≡ n = omega (arith, w.next) in
    subst (λ (i : ℕ). InRoom Text room exit (pos i)) e (written h (omega arith) (wrote-whole w (omega arith)))

module _ {sheet room exit : List ℕ} {n : ℕ} where
  pub check-in-place : Pages small sheet room exit n → n ≤ length room → Checks sheet room exit (pos n)
  check-in-place w l = in_place w.prints w.wrote l

  pub check-in-in-place : {s t : List ℕ} → PagesIn sheet s t room exit n → n ≤ length room → ChecksIn sheet s t room exit (pos n)
  check-in-in-place w l = record { store = w.left; text = in_place w.prints w.wrote l }

-- ---- one result

-- the check allows one result
pub checks-unique : {sheet room exit other : List ℕ} {r q : ℤ} → Checks sheet room exit r → Checks sheet room other q → (exit ≡ other) × (r ≡ q)
checks-unique = room-unique (λ t u a b. prints-unique a b)

-- the check in a lent store: one store, one room and one number
pub check-in-unique : {sheet s t u room exit other : List ℕ} {r q : ℤ} → Words 64 t → Words 64 u → ChecksIn sheet s t room exit r → ChecksIn sheet s u room other q → (t ≡ u) × (exit ≡ other) × (r ≡ q)
check-in-unique v w a b = let e = room-unique (λ t u x y. prints-in-unique x y) a.text b.text in (read-into-unique v w a.store b.store, e.0, e.1)

-- ---- a room that always suffices

-- the text of a sheet is written
pub check-written : {sheet room exit : List ℕ} {r : ℤ} → text_limit small ≤ length room → Checks sheet room exit r → (t : List ℕ) × Prints small sheet t × (exit ≡ t ++ drop (length t) room) × (r ≡ pos (length t))
check-written {sheet} = room-written (text_limit small) (λ t h. prints-short small sheet (inr refl) h)

-- in a lent store too
pub check-in-written : {sheet s t room exit : List ℕ} {r : ℤ} → text_limit (width_of s) ≤ length room → ChecksIn sheet s t room exit r → (u : List ℕ) × PrintsIn sheet s u × (exit ≡ u ++ drop (length u) room) × (r ≡ pos (length u))
check-in-written {sheet} {s} l h = room-written (text_limit (width_of s)) (λ t p. prints-in-short sheet s p) l h.text
