-- `field::names::count` meets its contract. Assumes nothing.
use Rattle.std.proofs.Common.{arith}
use Rattle.field.specs.laws.Names.{count_none}
use Rattle.field.proofs.names.count.Goals as goal

pub returns-in-empty : goal.returns-in-empty
returns-in-empty c = (count_none c.args.f.now (omega arith), omega arith)
