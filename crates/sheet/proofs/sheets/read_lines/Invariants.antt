-- `sheet::sheets::read_lines` meets its contract. Assumes nothing.
use Rattle.std.proofs.Common.{◌≡◌, ◌+◌, ◌-◌, length}
use Rattle.text.specs.own.Split.{parts_from}
use Rattle.field.specs.own.Table.{room_of}
use Rattle.sheet.specs.Said.{nothing, outcome_from}
use Rattle.sheet.specs.laws.Lines.{Reads}
use Rattle.sheet.proofs.sheets.read_lines.Given as goal

abbrev pub invariant-loop-at : goal.invariant-loop-at
invariant-loop-at l = Reads l.layout.width l.sheet (outcome_from 2 (nothing (room_of l.initial.names)) (parts_from 10 l.sheet l.from)) l.at l.line l.kept l.names l.words l.start × (length l.words ≡ length l.initial.words) × (length l.names ≡ length l.initial.names) × (length l.ends ≡ 513)

abbrev pub decreases-loop-at : goal.decreases-loop-at
decreases-loop-at l = length l.sheet + 1 - l.at
