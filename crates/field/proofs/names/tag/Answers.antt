-- `field::names::tag` meets its contract. Assumes nothing.
use Rattle.std.proofs.Common.{◌≡◌, length, arith}
use Rattle.field.specs.laws.Tag.{tag-none, tag_one, tag-more}
use Rattle.field.proofs.names.tag.Goals as goal

pub returns-in-empty : goal.returns-in-empty
returns-in-empty c = (tag-none c.args.w.now (omega arith), omega arith)

pub returns-in-len1 : goal.returns-in-len1
returns-in-len1 c = let w = c.args.w.now in
    let k : length w ≡ 1 = omega arith in
    (omega (arith, rw k at (tag_one w k)), omega arith)

pub returns-in-len2-up : goal.returns-in-len2-up
returns-in-len2-up c = (omega (arith, tag-more c.args.w.now), omega arith)
