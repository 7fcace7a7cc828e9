-- `due::ahead::none_left` meets its contract. Assumes nothing.
use Rattle.std.proofs.Common.{arith}
use Rattle.due.specs.laws.Due.{none-own}
use Rattle.due.proofs.ahead.none_left.Goals as goal

pub returns-then-p-eq0 : goal.returns-then-p-eq0
returns-then-p-eq0 c = let x = c.args in none-own x.l.now x.p c.in-None.is (omega arith)
