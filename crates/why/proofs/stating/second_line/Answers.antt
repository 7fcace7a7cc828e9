-- `why::stating::second_line` meets its contract. Assumes nothing.
use Rattle.std.proofs.Common.{arith, zero-le}
use Rattle.text.specs.laws.Split.{end-le}
use Rattle.why.proofs.stating.second_line.Goals as goal

pub overflow_add-result : goal.overflow_add-result
overflow_add-result c = omega (arith, c.end_of.ensures, end-le 10 c.args.sheet.now 0 zero-le)
