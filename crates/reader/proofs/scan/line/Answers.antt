-- `reader::scan::line` meets its contract. Assumes nothing.
use Rattle.std.proofs.Common.{arith}
use Rattle.reader.specs.laws.Scan.{begins, scan-byte, scan-out, scan-skip, scan-stop, scan-tab}
use Rattle.reader.proofs.scan.line.Goals as goal

pub loop-i-init : goal.loop-i-init
loop-i-init c = begins _ _ _ c.requires.0

pub returns-then-text-j : goal.returns-then-text-j
returns-then-text-j c = scan-out (scan-skip c.loop-i.invariant c.skip-j.ensures) c.if-text-j.true c.close.ensures

pub returns-then-b-eq10 : goal.returns-then-b-eq10
returns-then-b-eq10 c = scan-stop (scan-skip c.loop-i.invariant c.skip-j.ensures) (omega arith) c.if-b-eq10.true c.close-then-b-eq10.ensures

pub loop-i-preserved-then-b-eq9 : goal.loop-i-preserved-then-b-eq9
loop-i-preserved-then-b-eq9 c = scan-tab (scan-skip c.loop-i.invariant c.skip-j.ensures) (omega arith) c.if-b-eq9.true c.mark.ensures

pub loop-i-preserved : goal.loop-i-preserved
loop-i-preserved c = scan-byte (scan-skip c.loop-i.invariant c.skip-j.ensures) (omega arith) c.if-b-eq10.false c.if-b-eq9.false c.still-good.ensures

pub returns : goal.returns
returns c = scan-out c.loop-i.invariant (omega arith) c.close-2.ensures
