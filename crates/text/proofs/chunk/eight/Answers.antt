-- `text::chunk::eight` meets its contract. Assumes nothing.
use Rattle.std.proofs.Common.{arith}
use Rattle.text.specs.laws.Chunk.{low-eight}
use Rattle.text.proofs.chunk.eight.Goals as goal

pub returns : goal.returns
returns c = let e = low-eight c.args.s.now c.args.at (omega arith) in omega arith
