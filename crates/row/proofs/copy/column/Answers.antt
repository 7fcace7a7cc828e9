-- `row::copy::column` meets its contract. Assumes nothing.
use Rattle.std.specs.Prelude.{refl, ◌*◌, length}
use Rattle.std.proofs.Common.{◌∙◌, arith, length-set}
use Rattle.row.specs.laws.Marks.{marks-done}
use Rattle.row.specs.laws.Column.{column-more, column-none, column-within}
use Rattle.row.proofs.copy.column.Goals as goal

pub loop-h-init : goal.loop-h-init
loop-h-init c = (refl, marks-done column-none (omega arith) (omega arith))

pub gather-requires : goal.gather-requires
gather-requires c = (column-within c.args.from (c.loop-h.h * 64) c.min.result c.args.count c.args.step (length c.args.s.now) (omega arith) c.requires.0, omega arith, omega arith)

pub loop-h-preserved : goal.loop-h-preserved
loop-h-preserved c = (
  length-set c.loop-h.r _ _ ∙ c.loop-h.invariant.0,
  marks-done (column-more c.args.s.now c.args.from c.args.step c.loop-h.h (marks-done c.loop-h.invariant.1 (omega arith) (omega arith)) c.loop-h.invariant.0 (omega arith) (omega arith) c.gather.ensures) (omega arith) (omega arith),
)

pub returns : goal.returns
returns c = marks-done c.loop-h.invariant.1 (omega arith) (omega arith)
