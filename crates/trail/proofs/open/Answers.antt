-- `trail::open` meets its contract. Assumes nothing.
use Rattle.std.proofs.Common.{arith}
use Rattle.trail.specs.laws.Opens.{opens-accepted, opens-paused, opens-refused, opens-store}
use Rattle.trail.proofs.open.Goals as goal

pub seek-requires : goal.seek-requires
seek-requires c = (opens-store c.whole-w.ensures c.in-Ok.is, opens-paused c.whole-w.ensures c.in-Ok.is, omega arith)

pub returns-in-Ok : goal.returns-in-Ok
returns-in-Ok c = opens-accepted c.whole-w.ensures c.in-Ok.is _ c.min.ensures c.seek.ensures

pub returns-in-Err : goal.returns-in-Err
returns-in-Err c = opens-refused c.whole-w.ensures _ c.in-Err.is
