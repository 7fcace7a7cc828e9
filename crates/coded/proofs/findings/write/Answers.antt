-- `coded::findings::write` meets its contract: i findings are written. Assumes nothing.
use Rattle.std.proofs.Common.{◌+◌, ◌*◌, ◌<◌, length, arith}
use Rattle.coded.specs.laws.Findings.{wrote-more, wrote-start}
use Rattle.coded.proofs.findings.write.Goals as goal

pub loop-i-init : goal.loop-i-init
loop-i-init c = (c.requires.1, wrote-start)

pub loop-i-preserved : goal.loop-i-preserved
loop-i-preserved c = let h : 2 * c.loop-i.i + 1 < length c.args.out.now = omega arith in (λ l. c.step-c.ensures.ready, rw c.second.ensures (wrote-more h c.loop-i.invariant.1 c.step-c.ensures))
