-- `sheet::sheets::fill_blank` meets its contract. Assumes nothing.
use Rattle.std.proofs.Common.{arith, length-set, get_or-set_same}
use Rattle.sheet.specs.laws.Sheets.{opens-long}
use Rattle.field.specs.own.Table.{room_at}
use Rattle.sheet.proofs.sheets.fill_blank.Goals as goal

pub returns-then-sheet-gt-BYTES : goal.returns-then-sheet-gt-BYTES
returns-then-sheet-gt-BYTES c = rw c.too_long.ensures (opens-long _ _ _ _ (rw c.allow.ensures (omega (arith, c.requires.1, length-set c.args.names.now room_at 0))) (rw c.allow.ensures (get_or-set_same c.args.names.now room_at 0 0 (omega (arith, c.requires.1)))) c.if-sheet-gt-BYTES.true)
