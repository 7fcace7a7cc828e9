-- `field::code::code` meets its contract. Assumes nothing.
use Rattle.std.proofs.Common.{arith}
use Rattle.text.specs.laws.Chunk.{low-four}
use Rattle.field.specs.laws.Code.{code-long, code-short, number-four}
use Rattle.field.proofs.code.code.Goals as goal

pub returns-in-0-to-3 : goal.returns-in-0-to-3
returns-in-0-to-3 c = omega (arith, code-short c.args.f.now (omega arith))

pub returns-in-4-to-7 : goal.returns-in-4-to-7
returns-in-4-to-7 c = let f = c.args.f.now in
    omega (arith, code-short f (omega arith), low-four f 0 (omega arith), number-four f (omega arith) _ c.few-in-4-to-7.ensures.0)

pub returns-in_default : goal.returns-in_default
returns-in_default c = code-long _ (omega arith)
