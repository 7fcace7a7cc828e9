-- `text::chunk::four` meets its contract. Assumes nothing.
use Rattle.std.proofs.Common.{arith}
use Rattle.text.specs.laws.Chunk.{low-four}
use Rattle.text.proofs.chunk.four.Goals as goal

pub returns : goal.returns
returns c = let e = low-four c.args.s.now c.args.at (omega arith) in (omega arith, omega arith)
