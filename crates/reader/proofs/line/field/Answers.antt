-- `reader::line::field` meets its contract. Assumes nothing.
use Rattle.std.proofs.Common.{sym, ◌∙◌, arith}
use Rattle.text.specs.laws.Split.{end_ge, end-le}
use Rattle.reader.specs.laws.Field.{field_told, field-ended, field-here, field-none}
use Rattle.reader.proofs.line.field.Goals as goal

pub slice_bounds-result-count : goal.slice_bounds-result-count
slice_bounds-result-count c = let x = c.args in
    let t = field_told x.line.now x.at _ _ (sym c.next_from.ensures ∙ c.in-Some.is) in
    omega (arith, t.0, t.1, end_ge 9 x.line.now x.at)

pub slice_bounds-result-start : goal.slice_bounds-result-start
slice_bounds-result-start c = let x = c.args in
    let t = field_told x.line.now x.at _ _ (sym c.next_from.ensures ∙ c.in-Some.is) in
    omega (arith, t.0, t.1, end_ge 9 x.line.now x.at)

pub slice_bounds-result-end : goal.slice_bounds-result-end
slice_bounds-result-end c = let x = c.args in
    let t = field_told x.line.now x.at _ _ (sym c.next_from.ensures ∙ c.in-Some.is) in
    omega (arith, t.0, t.1, end-le 9 x.line.now x.at t.2)

pub returns-in-Some : goal.returns-in-Some
returns-in-Some c = let x = c.args in
    let t = field_told x.line.now x.at _ _ (sym c.next_from.ensures ∙ c.in-Some.is) in
    rw (t.0, t.1) (sym (field-here x.line.now x.at t.2))

pub returns-in-None : goal.returns-in-None
returns-in-None c = let x = c.args in
    sym (field-none x.line.now x.at (field-ended x.line.now x.at (sym c.next_from.ensures ∙ c.in-None.is)))
