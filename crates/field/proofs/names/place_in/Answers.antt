-- `field::names::place_in` meets its contract. Assumes nothing.
use Rattle.std.proofs.Common.{sym, ◌∙◌, arith}
use Rattle.text.specs.laws.Bytes.{table_here, table_on, table-out}
use Rattle.field.specs.own.Table.{name_at}
use Rattle.field.proofs.names.place_in.Goals as goal

pub returns-then-entry_is : goal.returns-then-entry_is
returns-then-entry_is c = let v = c.loop-i in
    let x = c.args in
    omega (arith, v.invariant, table_here x.w.now (name_at x.sheet.now) x.entries.now v.i (omega arith) (sym c.entry_is.ensures ∙ c.if-entry_is.true))

pub loop-i-preserved : goal.loop-i-preserved
loop-i-preserved c = let v = c.loop-i in
    let x = c.args in
    omega (arith, v.invariant, table_on x.w.now (name_at x.sheet.now) x.entries.now v.i (omega arith) (sym c.entry_is.ensures ∙ c.if-entry_is.false))

pub returns : goal.returns
returns c = let v = c.loop-i in
    let x = c.args in
    omega (arith, v.invariant, table-out x.w.now (name_at x.sheet.now) x.entries.now v.i (omega arith))
