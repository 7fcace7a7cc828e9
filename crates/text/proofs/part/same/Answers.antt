-- `text::part::same` meets its contract. Assumes nothing.
use Rattle.std.proofs.Common.{sym, ne_eqb}
use Rattle.text.specs.laws.Bytes.{same_length}
use Rattle.text.proofs.part.same.Goals as goal

pub returns-else-a-b : goal.returns-else-a-b
returns-else-a-b c = rw (ne_eqb _ _ c.if-a-b.false) (sym (same_length _ _ c.if-a-b.false))
