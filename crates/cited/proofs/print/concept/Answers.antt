-- `cited::print::concept` meets its contract. Assumes nothing.
use Rattle.std.proofs.Common.{arith, sym, ◌∙◌}
use Rattle.field.specs.laws.Table.{entered_at}
use Rattle.field.specs.own.Table.{concepts_from}
use Rattle.cited.proofs.print.concept.Goals as goal

pub returns-then-c-known : goal.returns-then-c-known
returns-then-c-known c = let k = c.args.known.now in
    c.name_at.ensures ∙ sym (entered_at k.sheet.now k.numbers.now concepts_from k.counts.concepts (omega (arith, k.tidy.long, k.tidy.room.concepts)) c.args.c c.if-c-known.true)
