-- The entry of a name at a place of the sheet stands for that name. Assumes nothing.
use Rattle.std.specs.Prelude.{◌≡◌, refl, true, List, ℕ, ◌+◌, ◌*◌, ◌/◌, ◌%◌, ◌<◌, length}
use Rattle.std.proofs.Common.{sym, ap, ◌∙◌, arith}
use Rattle.text.specs.own.Split.{part_of}
use Rattle.text.specs.Name.{is_name}
use Rattle.text.specs.laws.Name.{name-bounds}
use Rattle.field.specs.own.Table.{entry_of, length_count, name_at, place_count, tag_of, tagged, tagged_count}
use Rattle.field.specs.laws.Tag.{tagged-own}

pub entry-name : (sheet w : List ℕ) (place : ℕ) → is_name w ≡ true → place < place_count → w ≡ part_of sheet place (length w) → name_at sheet (entry_of w place) ≡ w
entry-name sheet w place good near is =
    let b = name-bounds w good in
    let p = entry_of w place in
    let e : p ≡ entry_of w place = refl in
    let d : p / length_count ≡ tag_of w * place_count + place = omega (arith, b.1) in
    let q : p / length_count % place_count ≡ place = omega (arith, d) in
    let r : p % length_count ≡ length w = omega (arith, b.1) in
    let k : p / tagged_count ≡ tag_of w = omega (arith, b.1) in
    let f : part_of sheet (p / length_count % place_count) (p % length_count) ≡ w = rw (q, r) (sym is) in
    ap (tagged (p / tagged_count)) f ∙ tagged-own (p / tagged_count) w (sym k)
