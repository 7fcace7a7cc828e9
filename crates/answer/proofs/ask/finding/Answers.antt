-- `answer::ask::finding` meets its contract. Assumes nothing.
use Rattle.std.proofs.Common.{sym, ◌∙◌}
use Rattle.answer.specs.laws.Asked.{finding-no, finding-short, finding-some}
use Rattle.answer.proofs.ask.finding.Goals as goal

pub returns-then-count-ne3 : goal.returns-then-count-ne3
returns-then-count-ne3 c = λ W x o m. finding-short _ _ x _ c.args.q.now (λ l. c.if-count-ne3.true (c.count.ensures ∙ l))

pub returns-in_err-s : goal.returns-in_err-s
returns-in_err-s c = λ W x o m. rw c.from_residual.ensures (finding-no _ _ x _ c.args.q.now _ c.requires.1 (sym c.count.ensures ∙ c.if-count-ne3.false) m c.item-item.result (rw (← c.past-at.ensures, ← c.past.ensures, ← c.field-name.ensures) c.item-item.ensures.place) (rw (← c.past-at.ensures, ← c.field.ensures) (c.in_err-s.ensures W x o m)))

pub returns : goal.returns
returns c = λ W x o m. finding-some _ _ x _ c.args.q.now _ c.requires.1 (sym c.count.ensures ∙ c.if-count-ne3.false) m c.in_ok-s.s c.item-item.result (rw (← c.past-at.ensures, ← c.past.ensures, ← c.field-name.ensures) c.item-item.ensures.place) (rw (← c.past-at.ensures, ← c.field.ensures) (c.in_ok-s.ensures W x o m))
