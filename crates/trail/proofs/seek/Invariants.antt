-- `trail::seek` meets its contract: no rule from the first place to this one has a finding. Assumes nothing.
use Rattle.std.proofs.Common.{List, ◌+◌, ◌-◌, ◌≤◌, length}
use Rattle.rule.specs.declared.Finding.{Finding}
use Rattle.field.specs.own.Table.{table_of}
use Rattle.sheet.specs.own.Pass.{Paused}
use Rattle.trail.specs.own.Trail.{Beyond}
use Rattle.trail.proofs.seek.Given as goal

abbrev pub invariant-loop-r : goal.invariant-loop-r
invariant-loop-r l = Paused l.known.sheet.now (table_of l.known.numbers.now l.known.counts) l.past l.line × (l.number ≤ l.past) × ((fs : List Finding) → Beyond l.known.sheet.now l.words (table_of l.known.numbers.now l.known.counts) l.from l.first l.rule fs → Beyond l.known.sheet.now l.words (table_of l.known.numbers.now l.known.counts) l.past l.line l.number fs)

abbrev pub decreases-loop-r : goal.decreases-loop-r
decreases-loop-r l = length l.known.sheet.now + 3 - l.past
