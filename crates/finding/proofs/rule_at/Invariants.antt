-- `finding::rule_at` meets its contract. Assumes nothing.
use Rattle.std.proofs.Common.{◌≡◌, List, ◌+◌, ◌≤◌, length, Some}
use Rattle.field.specs.own.Table.{table_of}
use Rattle.sheet.specs.Said.{SheetRule}
use Rattle.sheet.specs.declared.RuleLine.{RuleLine}
use Rattle.sheet.specs.own.Pass.{left_after}
use Rattle.sheet.specs.laws.Count.{Turn}
use Rattle.why.specs.own.Asked.{Of}
use Rattle.finding.proofs.rule_at.Given as goal

abbrev pub invariant-loop-next : goal.invariant-loop-next
invariant-loop-next l = Of l.known.sheet.now (table_of l.known.numbers.now l.known.counts) (λ x. Turn l.known.sheet.now (table_of l.known.numbers.now l.known.counts) x (λ (done : List SheetRule). length done ≤ l.k) l.next l.n) × ((q : RuleLine) → l.next ≡ Some q → (l.n ≤ q.past) × (q.past ≤ length l.known.sheet.now + 2)) × (l.n ≤ l.k)

abbrev pub decreases-loop-next : goal.decreases-loop-next
decreases-loop-next l = left_after (length l.known.sheet.now) l.next
