-- `field::names::key` meets its contract. Assumes nothing.
use Rattle.std.proofs.Common.{arith}
use Rattle.field.specs.laws.Tag.{key-long, key-short}
use Rattle.field.proofs.names.key.Goals as goal

pub returns-then-n-ge4 : goal.returns-then-n-ge4
returns-then-n-ge4 c = (rw (c.four-first.ensures.0, c.four-last.ensures.0) (key-long c.args.w.now c.if-n-ge4.true), omega arith)

pub returns : goal.returns
returns c = (rw c.tag.ensures.0 (key-short c.args.w.now (omega arith)), omega arith)
