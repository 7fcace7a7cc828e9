-- `reader::scan::field` meets its contract. Assumes nothing.
use Rattle.std.proofs.Common.{arith}
use Rattle.reader.specs.laws.Ends.{field_is, room-between}
use Rattle.reader.proofs.scan.field.Goals as goal

pub slice_bounds-result-count : goal.slice_bounds-result-count
slice_bounds-result-count c = let x = c.args in
    let q = c.requires in
    let b = room-between x.line.now x.ends.now q.0 x.k q.1 q.2 in
    omega (arith, b.low, b.high, c.start.ensures, c.end.ensures.0)

pub slice_bounds-result-start : goal.slice_bounds-result-start
slice_bounds-result-start c = let x = c.args in
    let q = c.requires in
    let b = room-between x.line.now x.ends.now q.0 x.k q.1 q.2 in
    omega (arith, b.low, b.high, c.start.ensures, c.end.ensures.0)

pub slice_bounds-result-end : goal.slice_bounds-result-end
slice_bounds-result-end c = let x = c.args in
    let q = c.requires in
    let b = room-between x.line.now x.ends.now q.0 x.k q.1 q.2 in
    omega (arith, b.low, b.high, c.start.ensures, c.end.ensures.0)

pub returns : goal.returns
returns c = let x = c.args in
    let q = c.requires in
    rw (c.start.ensures, c.end.ensures.0) (field_is x.line.now x.ends.now q.0 x.k q.1 q.2)
