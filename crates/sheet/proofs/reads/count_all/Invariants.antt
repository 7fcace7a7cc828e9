-- `sheet::reads::count_all` meets its contract: the findings of n rules are counted, and the next rule is known. Assumes nothing.
use Rattle.std.proofs.Common.{◌≡◌, List, ◌+◌, ◌*◌, ◌≤◌, length, Some}
use Rattle.sheet.specs.own.Pass.{Counted, left_after, table_in}
use Rattle.sheet.specs.Said.{Said, SheetRule, outcome}
use Rattle.sheet.specs.Said.Outcome.{accepted}
use Rattle.field.specs.own.Known.{names_in}
use Rattle.sheet.specs.laws.Count.{Turn}
use Rattle.sheet.specs.declared.RuleLine.{RuleLine}
use Rattle.sheet.proofs.reads.count_all.Given as goal

abbrev pub invariant-loop-next : goal.invariant-loop-next
invariant-loop-next l = ((x : Said) → outcome l.at.width l.known.sheet.now ≡ accepted x → x.names ≡ names_in l.known → Turn l.known.sheet.now (table_in l.known) x (λ (done : List SheetRule). Counted l.at.width x l.words done l.total) l.next l.n) × ((q : RuleLine) → l.next ≡ Some q → (l.n ≤ q.past) × (q.past ≤ length l.known.sheet.now + 2)) × (l.total ≤ 262656 * l.n)

abbrev pub decreases-loop-next : goal.decreases-loop-next
decreases-loop-next l = left_after (length l.known.sheet.now) l.next
