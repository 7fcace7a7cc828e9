-- `answer::ask::is_number` meets its contract. Assumes nothing.
use Rattle.std.proofs.Common.{arith, ap, length}
use Rattle.text.specs.laws.Text.{wrote-text}
use Rattle.answer.proofs.ask.is_number.Goals as goal

pub slice_bounds-same-end : goal.slice_bounds-same-end
slice_bounds-same-end c = omega (arith, ap length (wrote-text c.put_decimal-k.ensures.0 c.put_decimal-k.ensures.1), c.put_decimal-k.ensures.0.next)

pub returns : goal.returns
returns c = rw (← wrote-text c.put_decimal-k.ensures.0 c.put_decimal-k.ensures.1) c.same.ensures
