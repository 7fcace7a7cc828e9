-- `coded::findings::write` meets its contract: i findings are written. Assumes nothing.
use Rattle.std.proofs.Common.{◌<◌}
use Rattle.judge.specs.own.Search.{Ready}
use Rattle.coded.specs.own.Writing.{WroteTo}
use Rattle.coded.proofs.findings.write.Given as goal

abbrev pub invariant-loop-i : goal.invariant-loop-i
invariant-loop-i l = (l.i < l.n → Ready l.words l.c) × WroteTo l.words l.initial.c l.initial.out l.i l.c l.out
