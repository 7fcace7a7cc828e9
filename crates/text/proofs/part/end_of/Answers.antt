-- `text::part::end_of` meets its contract. Assumes nothing.
use Rattle.std.proofs.Common.{sym, ◌∙◌, length, arith}
use Rattle.text.specs.laws.Split.{end-out, end-here, end_on}
use Rattle.text.specs.laws.Choice.{le-cases}
use Rattle.text.proofs.part.end_of.Goals as goal

pub returns-then-s-i : goal.returns-then-s-i
returns-then-s-i c = let w = c.loop-i in
    sym (w.invariant ∙ end-here _ _ w.i (omega arith) c.if-s-i.true)

pub loop-i-preserved : goal.loop-i-preserved
loop-i-preserved c = let w = c.loop-i in
    w.invariant ∙ end_on _ _ w.i (omega arith) c.if-s-i.false

pub returns : goal.returns
returns c = let w = c.loop-i in
    let x = c.args in
    le-cases x.at (length x.s.now)
    (λ h. omega (arith, w.invariant, end-out x.t x.s.now w.i (omega arith), w.auto.i-end h, c.max.ensures))
    (λ h. omega (arith, end-out x.t x.s.now x.at (omega arith), c.max.ensures))
