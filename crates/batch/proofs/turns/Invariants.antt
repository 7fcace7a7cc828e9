-- `batch::turns` meets its contract. The loop's invariant is the contract up to statement `i`. Assumes nothing.
use Rattle.batch.specs.own.Turn.{Answered}
use Rattle.batch.proofs.turns.Given as goal

abbrev pub invariant-loop-i : goal.invariant-loop-i
invariant-loop-i l = Answered l.counts l.statements l.initial.answers l.answers l.initial.words l.words l.i
