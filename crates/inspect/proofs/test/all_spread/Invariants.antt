-- `inspect::test::all_spread` meets its contract. Assumes nothing.
use Rattle.std.specs.Prelude.{ℕ, ◌<◌, ◌+◌, ◌*◌}
use Rattle.inspect.specs.own.Test.{Spreads}
use Rattle.inspect.proofs.test.all_spread.Given as goal

abbrev pub invariant-loop-x : goal.invariant-loop-x
invariant-loop-x l = (j : ℕ) → j < l.x → Spreads l.s (l.at + j * l.step) (l.from + j * l.width) l.from l.width l.count l.size l.blocks
