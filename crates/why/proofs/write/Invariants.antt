-- `why::write` meets its contract: the lines of those marked of the n statements passed are listed, and q comes next. Assumes nothing.
use Rattle.std.proofs.Common.{◌≡◌, ◌+◌, ◌-◌, ◌≤◌, length}
use Rattle.field.specs.own.Table.{table_of}
use Rattle.why.specs.own.Asked.{Of}
use Rattle.why.specs.laws.Listed.{Putting}
use Rattle.why.specs.laws.Stating.{Turn}
use Rattle.why.proofs.write.Given as goal

abbrev pub invariant-loop-q : goal.invariant-loop-q
invariant-loop-q l = Of l.known.sheet.now (table_of l.known.numbers.now l.known.counts) (λ x. Turn l.known.sheet.now (table_of l.known.numbers.now l.known.counts) x (Putting l.marks l.initial.list l.list l.total) l.at l.line l.n) × (l.n ≤ l.at) × (l.total ≤ l.n) × (length l.list ≡ length l.initial.list)

abbrev pub decreases-loop-q : goal.decreases-loop-q
decreases-loop-q l = length l.known.sheet.now + 2 - l.at
