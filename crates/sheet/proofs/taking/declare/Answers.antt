-- `sheet::taking::declare` meets its contract. Assumes nothing.
use Rattle.std.proofs.Common.{arith}
use Rattle.reader.specs.laws.Ends.{room-between}
use Rattle.text.specs.laws.Name.{name-bounds}
use Rattle.sheet.proofs.taking.declare.Goals as goal

pub overflow_add-place : goal.overflow_add-place
overflow_add-place c = let p = c.requires in
    let l = c.args.fields.now.looked in
    let b = room-between c.args.fields.now.line.now c.args.fields.now.ends.now l.ended 1 (omega (arith, p.2.two)) (omega (arith, l.count, p.2.two)) in
    omega (arith, c.start.ensures, b.low, b.high, p.3)

pub note-requires : goal.note-requires
note-requires c = let p = c.requires in
    let l = c.args.fields.now.looked in
    let b = room-between c.args.fields.now.line.now c.args.fields.now.ends.now l.ended 1 (omega (arith, p.2.two)) (omega (arith, l.count, p.2.two)) in
    (p.4, p.1, p.0, omega (arith, c.start.ensures, b.low, b.high, p.3), rw c.field.ensures (name-bounds _ p.2.named).1)
