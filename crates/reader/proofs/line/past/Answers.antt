-- `reader::line::past` meets its contract. Assumes nothing.
use Rattle.std.proofs.Common.{sym, ◌∙◌, arith}
use Rattle.text.specs.laws.Split.{end-le}
use Rattle.reader.specs.laws.Field.{field_told, field-ended, past-here, past-none}
use Rattle.reader.proofs.line.past.Goals as goal

pub overflow_add-result : goal.overflow_add-result
overflow_add-result c = let x = c.args in
    let t = field_told x.line.now x.at _ _ (sym c.next_from.ensures ∙ c.in-Some.is) in
    omega (arith, t.1, end-le 9 x.line.now x.at t.2)

pub returns-in-Some : goal.returns-in-Some
returns-in-Some c = let x = c.args in
    let t = field_told x.line.now x.at _ _ (sym c.next_from.ensures ∙ c.in-Some.is) in
    omega (arith, t.1, past-here x.line.now x.at t.2)

pub returns-in-None : goal.returns-in-None
returns-in-None c = let x = c.args in
    sym (past-none x.line.now x.at (field-ended x.line.now x.at (sym c.next_from.ensures ∙ c.in-None.is)))
