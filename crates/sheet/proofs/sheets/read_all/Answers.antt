-- `sheet::sheets::read_all` meets its contract. Assumes nothing.
use Rattle.std.proofs.Common.{arith, sym, ap, ◌∙◌, length-set, get_or-set_same}
use Rattle.text.specs.laws.Split.{end-le}
use Rattle.field.specs.own.Table.{room_at, room_of}
use Rattle.line.specs.Fault.{header_fault, room_by}
use Rattle.line.specs.own.Number.{found}
use Rattle.line.specs.laws.Number.{number_some}
use Rattle.line.specs.laws.Header.{room_fits, room_most}
use Rattle.sheet.specs.laws.Sheets.{blank_stands, ends-header, header-on, header-stop}
use Rattle.sheet.proofs.sheets.read_all.Goals as goal

pub allow-requires : goal.allow-requires
allow-requires c = (omega (arith, c.requires.2), rw c.item_room.ensures (room_most _))

pub overflow_add-end : goal.overflow_add-end
overflow_add-end c = omega (arith, c.end_of-end.ensures, end-le 10 c.args.sheet.now 0 (omega arith), c.requires.0)

pub read_lines-requires : goal.read_lines-requires
read_lines-requires c = (c.requires.0, c.requires.1, rw c.allow.ensures (omega (arith, c.requires.2, length-set c.args.names.now room_at c.item_room.result)), rw (c.allow.ensures, get_or-set_same c.args.names.now room_at c.item_room.result 0 (omega (arith, c.requires.2)), c.item_room.ensures) (room_fits _ _ c.requires.5 (sym c.header_fault.ensures ∙ ap found c.in_default.is)), omega (arith, c.end_of-end.ensures, end-le 10 c.args.sheet.now 0 (omega arith)), c.requires.4)

pub returns : goal.returns
returns c = let room = ap room_of c.allow.ensures ∙ get_or-set_same c.args.names.now room_at c.item_room.result 0 (omega (arith, c.requires.2)) ∙ c.item_room.ensures ∙ ap room_by c.part-first.ensures in
    rw (header-on _ _ _ _ c.requires.0 c.end_of-end.ensures (c.header_fault.ensures ∙ ap (header_fault c.args.at.width) c.part-first.ensures) (ap found c.in_default.is), ← room) c.read_lines.ensures

pub returns-in-Err : goal.returns-in-Err
returns-in-Err c = rw (c.refused.ensures, c.blank.ensures, c.requires.1)
    (ends-header _ _ _ _ _ _ (blank_stands _ _ _ _ c.requires.2 c.requires.3 (omega arith)) (header-stop _ _ _ _ c.requires.0 c.end_of-end.ensures (ap found (sym c.in-Err.is) ∙ c.header_fault.ensures ∙ ap (header_fault c.args.at.width) c.part-first.ensures) (λ z. omega (arith, number_some c.in-Err.fault, z))))
