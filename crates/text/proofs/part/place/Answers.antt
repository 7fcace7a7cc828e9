-- `text::part::place` meets its contract. Assumes nothing.
use Rattle.std.proofs.Common.{arith, sym, ◌∙◌}
use Rattle.text.specs.laws.Split.{parts_all, end_ge, end-le, word-here, word_on, word_out}
use Rattle.text.proofs.part.place.Goals as goal

pub loop-at-init : goal.loop-at-init
loop-at-init c = (omega arith, omega arith, rw parts_all (omega arith))

pub overflow_sub-end : goal.overflow_sub-end
overflow_sub-end c = omega (arith, end_ge 32 c.args.words.now c.loop-at.at, c.end_of-end.ensures)

pub returns-then-same : goal.returns-then-same
returns-then-same c = let v = c.loop-at in
    let x = c.args in
    omega (
      arith,
      v.invariant.2,
      word-here x.w.now 32 x.words.now v.at c.end_of-end.result c.part.result.now (omega arith)
          c.end_of-end.ensures c.part.ensures (sym c.same.ensures ∙ c.if-same.true),
    )

pub overflow_add-at : goal.overflow_add-at
overflow_add-at c = omega (arith, end-le 32 c.args.words.now c.loop-at.at (omega arith))

pub loop-at-smaller : goal.loop-at-smaller
loop-at-smaller c = omega (arith, end_ge 32 c.args.words.now c.loop-at.at)

pub loop-at-preserved : goal.loop-at-preserved
loop-at-preserved c = let v = c.loop-at in
    let x = c.args in (
      omega (arith, end_ge 32 x.words.now v.at),
      omega (arith, end-le 32 x.words.now v.at (omega arith)),
      omega (
        arith,
        v.invariant.2,
        word_on x.w.now 32 x.words.now v.at c.end_of-end.result c.part.result.now (omega arith)
            c.end_of-end.ensures c.part.ensures (sym c.same.ensures ∙ c.if-same.false),
      ),
    )

pub returns : goal.returns
returns c = let x = c.args in
    omega (arith, c.loop-at.invariant.2, word_out x.w.now 32 x.words.now c.loop-at.at (omega arith))
