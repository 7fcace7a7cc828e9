-- `field::names::place_in` meets its contract. Assumes nothing.
use Rattle.std.proofs.Common.{◌≡◌, ◌+◌, map, drop}
use Rattle.text.specs.Bytes.{place}
use Rattle.field.specs.own.Table.{name_at}
use Rattle.field.proofs.names.place_in.Given as goal

abbrev pub invariant-loop-i : goal.invariant-loop-i
invariant-loop-i l = place l.w (map (name_at l.sheet) l.entries) ≡ l.i + place l.w (map (name_at l.sheet) (drop l.i l.entries))
