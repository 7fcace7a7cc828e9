-- `report::page::judge_all` meets its contract: n rules are judged, and the next one is known. Assumes nothing.
use Rattle.std.proofs.Common.{◌≡◌, List, ◌+◌, ◌*◌, ◌≤◌, length, Some}
use Rattle.sheet.specs.Promise.{print_limit}
use Rattle.sheet.specs.Said.{Said, SheetRule, outcome}
use Rattle.sheet.specs.Said.Outcome.{accepted}
use Rattle.sheet.specs.declared.RuleLine.{RuleLine}
use Rattle.sheet.specs.own.Pass.{left_after}
use Rattle.field.specs.own.Table.{names_of, table_of}
use Rattle.sheet.specs.laws.Count.{Turn}
use Rattle.printed.specs.own.Lines.{finding_bound}
use Rattle.report.specs.own.Pages.{Printed}
use Rattle.report.proofs.page.judge_all.Given as goal

abbrev pub invariant-loop-next : goal.invariant-loop-next
invariant-loop-next l = ((x : Said) → outcome l.at.width l.known.sheet.now ≡ accepted x → x.names ≡ names_of l.known.sheet.now (table_of l.known.numbers.now l.known.counts) → Turn l.known.sheet.now (table_of l.known.numbers.now l.known.counts) x (λ (done : List SheetRule). Printed l.at.width x l.words done l.initial.room 0 l.room l.b) l.next l.n) × ((q : RuleLine) → l.next ≡ Some q → (l.n ≤ q.past) × (q.past ≤ length l.known.sheet.now + 2)) × (l.b.total ≤ 262656 * l.n) × (l.b.left ≤ print_limit) × (l.b.at + finding_bound * l.b.left ≤ finding_bound * print_limit) × (length l.room ≡ length l.initial.room)

abbrev pub decreases-loop-next : goal.decreases-loop-next
decreases-loop-next l = left_after (length l.known.sheet.now) l.next
