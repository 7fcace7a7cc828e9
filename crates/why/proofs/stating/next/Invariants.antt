-- `why::stating::next` meets its contract: no line from the first place to this one is that of a statement. Assumes nothing.
use Rattle.std.proofs.Common.{◌≡◌, List, ◌+◌, ◌-◌, ◌≤◌, length}
use Rattle.field.specs.own.Table.{table_of}
use Rattle.line.specs.Fault.{line_limit}
use Rattle.why.specs.own.Stating.{Passing}
use Rattle.sheet.specs.Said.{Said, SheetStatement}
use Rattle.why.proofs.stating.next.Given as goal

abbrev pub invariant-loop-at : goal.invariant-loop-at
invariant-loop-at l = ((x : Said) (done : List SheetStatement) → Passing l.known.sheet.now (table_of l.known.numbers.now l.known.counts) x done l.from l.first → Passing l.known.sheet.now (table_of l.known.numbers.now l.known.counts) x done l.at l.line) × (l.from ≤ l.at) × (length l.ends ≡ line_limit + 1)

abbrev pub decreases-loop-at : goal.decreases-loop-at
decreases-loop-at l = length l.known.sheet.now + 1 - l.at
