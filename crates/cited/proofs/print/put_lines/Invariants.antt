-- `cited::print::put_lines` meets its contract. Assumes nothing.
use Rattle.std.proofs.Common.{ℕ, length, ◌≡◌, ◌+◌, ◌-◌, ◌*◌, ◌≤◌}
use Rattle.line.specs.Fault.{line_limit}
use Rattle.sheet.specs.Said.{Said, outcome}
use Rattle.sheet.specs.Said.Outcome.{accepted}
use Rattle.cited.specs.laws.Writing.{Written}
use Rattle.cited.proofs.print.put_lines.Given as goal

abbrev pub invariant-loop-at : goal.invariant-loop-at
invariant-loop-at l = ((W : ℕ) (x : Said) → outcome W l.sheet ≡ accepted x → Written l.sheet x l.marks l.initial.room l.room l.p l.n l.at l.line) × (l.line ≤ l.at + 2) × (l.p.at ≤ 15 * l.at) × (l.p.total ≤ l.at) × (l.n ≤ l.at) × (l.at ≤ length l.sheet + 1) × (length l.room ≡ length l.initial.room) × (length l.ends ≡ line_limit + 1)

abbrev pub decreases-loop-at : goal.decreases-loop-at
decreases-loop-at l = length l.sheet + 1 - l.at
