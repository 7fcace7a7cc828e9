-- `sheet::edition::wide` meets its contract. Assumes nothing.
use Rattle.std.proofs.Common.{ap, ◌∙◌}
use Rattle.line.specs.Fault.{room_by}
use Rattle.sheet.specs.laws.Edition.{second-first}
use Rattle.sheet.proofs.edition.wide.Goals as goal

pub returns : goal.returns
returns c = second-first _ _ _ c.end_of-end.ensures (c.item_room.ensures ∙ ap room_by c.part.ensures)
