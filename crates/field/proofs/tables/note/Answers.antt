-- `field::tables::note` meets its contract. Assumes nothing.
use Rattle.std.proofs.Common.{◌+◌, arith}
use Rattle.field.specs.laws.Table.{noted-both}
use Rattle.field.proofs.tables.note.Goals as goal

pub returns : goal.returns
returns c = let x = c.args in
    let h = c.hint_at-hint.ensures.0 in
    let p = c.requires in
    noted-both x.names.now (x.from + x.n) c.entry.result _ c.hint_at-hint.result _ x.n c.hint_at-hint.ensures.1 h (omega (arith, p.0)) p.2 c.entry.ensures
