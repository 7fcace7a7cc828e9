-- Laws of the store that a sheet needs. Assumes nothing.
use Rattle.std.specs.Prelude.{◌≡◌, refl, Bool, true, false, List, ℕ, ◌-◌, eqb}
use Rattle.std.proofs.Common.{sym, ◌∙◌, zero-le, arith, eq-eqb, ne_eqb}
use Rattle.text.specs.Split.{lines}
use Rattle.text.specs.own.Split.{end_of, part_of}
use Rattle.text.specs.laws.Split.{parts_all, parts_next}
use Rattle.store.specs.Layout.{item_limit, large}
use Rattle.line.specs.Fault.{is_second, room_by}
use Rattle.line.specs.laws.Header.{room-other, room-second}
use Rattle.sheet.specs.Edition.{second_in}

-- the edition is told by the items of line 1
second-room : (l : List ℕ) → eqb (room_by l) (item_limit large) ≡ is_second l
second-room l = go (is_second l) refl
  where
    go : (b : Bool) → is_second l ≡ b → eqb (room_by l) (item_limit large) ≡ is_second l
    go true e = eq-eqb (room_by l) (item_limit large) (sym (room-second l e)) ∙ sym e
    go false e = ne_eqb (room_by l) (item_limit large) (λ q. omega (arith, room-other l e, q)) ∙ sym e

-- line 1 ends at the first line feed
pub second-first : (sheet : List ℕ) (e room : ℕ) → e ≡ end_of 10 sheet 0 → room ≡ room_by (part_of sheet 0 e) → eqb room (item_limit large) ≡ second_in (lines sheet)
second-first sheet e room end is =
    let z : end_of 10 sheet 0 ≡ end_of 10 sheet 0 - 0 = omega arith in
    let q = parts_next 10 sheet 0 zero-le in
    rw (← parts_all, q, ← z, ← end, is) (second-room (part_of sheet 0 e))
