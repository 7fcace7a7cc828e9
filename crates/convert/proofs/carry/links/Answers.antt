-- `convert::carry::links` meets its contract. The loop's invariant is the contract up to role `r`. Assumes nothing.
use Rattle.std.proofs.Common.{refl, arith}
use Rattle.convert.specs.laws.Carry.{block_within, blocks_more}
use Rattle.convert.proofs.carry.links.Goals as goal

pub rows-requires : goal.rows-requires
rows-requires c = (
  omega (arith, block_within c.requires.0 c.requires.2 c.loop-r.r _ (omega arith) refl),
  omega (arith, block_within c.requires.1 c.requires.3 c.loop-r.r _ (omega arith) refl, c.loop-r.invariant.blocks.mapped.len),
)

pub loop-r-preserved : goal.loop-r-preserved
loop-r-preserved c = blocks_more c.loop-r.invariant refl refl c.requires.3.items c.rows.ensures
