-- `question::ask::cell` meets its contract. Assumes nothing.
use Rattle.std.proofs.Common.{arith, length, sym, ap, ◌∙◌}
use Rattle.text.specs.Bytes.{every}
use Rattle.text.specs.Name.{line_byte}
use Rattle.field.specs.laws.Looked.{looked}
use Rattle.line.specs.laws.Number.{found-none, found-some}
use Rattle.question.specs.laws.Asked.{asking-feed, asking-form, asking-long, asking-wrong, whole-line}
use Rattle.question.proofs.ask.cell.Goals as goal

pub returns-then-q-gt-LINE : goal.returns-then-q-gt-LINE
returns-then-q-gt-LINE c = asking-long _ _ c.if-q-gt-LINE.true

pub returns-then-s-q : goal.returns-then-s-q
returns-then-s-q c = asking-feed _ _ (omega (arith, c.look_from-s.ensures.end, c.if-s-q.true))

pub line_fault-fault-requires : goal.line_fault-fault-requires
line_fault-fault-requires c = let whole = whole-line c.args.q.now (omega (arith, c.look_from-s.ensures.end, c.if-s-q.false)) in
    (c.look_from-s.ensures.good ∙ ap (every line_byte) whole, λ short. rw whole at (looked c.look_from-s.ensures _ c.min-n.ensures (omega (arith, ap length whole, short))))

pub returns-then-is_err : goal.returns-then-is_err
returns-then-is_err c = asking-wrong _ _ (λ e. found-some _ (sym c.is_err.ensures.value ∙ c.if-is_err.true) (c.line_fault-fault.ensures ∙ e))

pub invariant_of-fields : goal.invariant_of-fields
invariant_of-fields c = let whole = whole-line c.args.q.now (omega (arith, c.look_from-s.ensures.end, c.if-s-q.false)) in
    record { looked = rw whole at (looked c.look_from-s.ensures _ c.min-n.ensures (omega (arith, ap length whole, c.if-q-gt-LINE.false))) }

pub returns : goal.returns
returns c = asking-form _ _ _ (sym c.line_fault-fault.ensures ∙ found-none _ (sym c.is_err.ensures.value ∙ c.if-is_err.false)) c.stated.ensures
