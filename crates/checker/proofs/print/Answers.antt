-- `checker::print` meets its contract: a text is no longer than its room. Assumes nothing.
use Rattle.std.proofs.Common.{arith, length-take}
use Rattle.report.specs.laws.Short.{pages-short}
use Rattle.checker.proofs.print.Goals as goal

pub slice_bounds-room-end : goal.slice_bounds-room-end
slice_bounds-room-end g c = omega (arith, pages-short c.page-k.ensures, c.page-k.auto.room)

pub slice_bounds-write_all-end : goal.slice_bounds-write_all-end
slice_bounds-write_all-end g c = omega (arith, pages-short c.page-k.ensures, c.page-k.auto.room, length-take c.page-k.result c.page-k.new.room)
