-- `printed::name` meets its contract. Assumes nothing.
use Rattle.std.proofs.Common.{arith, sym, ◌∙◌}
use Rattle.field.specs.own.Table.{items_from}
use Rattle.field.specs.laws.Table.{entered_at}
use Rattle.printed.proofs.name.Goals as goal

pub returns-then-a-known : goal.returns-then-a-known
returns-then-a-known c = let k = c.args.known.now in
    c.name_at.ensures ∙ sym (entered_at k.sheet.now k.numbers.now items_from k.counts.items (omega (arith, k.tidy.long, k.tidy.room.items)) c.args.a.0 c.if-a-known.true)
