-- `sheet::pass::next` meets its contract: no line from the first place to this one is that of a rule. Assumes nothing.
use Rattle.std.proofs.Common.{◌≡◌, List, ◌+◌, ◌-◌, ◌≤◌, length}
use Rattle.sheet.specs.own.Pass.{Passing, table_in}
use Rattle.sheet.specs.Said.{Said, SheetRule}
use Rattle.sheet.proofs.pass.next.Given as goal

abbrev pub invariant-loop-at : goal.invariant-loop-at
invariant-loop-at l = ((x : Said) (done : List SheetRule) → Passing l.known.sheet.now (table_in l.known) x done l.from l.first → Passing l.known.sheet.now (table_in l.known) x done l.at l.line) × (l.from ≤ l.at) × (length l.ends ≡ 513)

abbrev pub decreases-loop-at : goal.decreases-loop-at
decreases-loop-at l = length l.known.sheet.now + 1 - l.at
