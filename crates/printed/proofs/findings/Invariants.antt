-- `printed::findings` meets its contract: i findings are written. Assumes nothing.
use Rattle.std.proofs.Common.{◌≡◌, ◌+◌, ◌*◌, ◌≤◌, ◌<◌, length}
use Rattle.judge.specs.own.Search.{Ready}
use Rattle.field.specs.own.Known.{names_in}
use Rattle.printed.specs.laws.Written.{Reached}
use Rattle.printed.proofs.findings.Given as goal

abbrev pub invariant-loop-i : goal.invariant-loop-i
invariant-loop-i l = (length l.room ≡ length l.initial.room) × (l.p ≤ l.at + 93 * l._i) × (l._i < l.n → Ready l.words l.c) × Reached l.words l.initial.c l._i (names_in l.known) l.line l.initial.room l.at l.c l.room l.p
