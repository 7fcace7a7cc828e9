-- `printed::judge` meets its contract. Assumes nothing.
use Rattle.std.proofs.Common.{arith, ap, ◌∙◌}
use Rattle.sheet.specs.own.Pass.{counted_in}
use Rattle.rule.specs.laws.Few.{few-findings}
use Rattle.printed.specs.laws.Tally.{tallied}
use Rattle.printed.proofs.judge.Goals as goal

pub overflow_add-result : goal.overflow_add-result
overflow_add-result c = let z = c.start-p.ensures in
    let pre = c.requires.0 in
    omega (arith, c.counted-m.ensures ∙ ap counted_in z.answer, few-findings {m = 512} (omega (arith, pre.store.fits.items, c.requires.1.wide)) z.findings, pre.total)

pub returns : goal.returns
returns c = rw c.counted-m.ensures (tallied c.start-p.ensures c.findings-at.ensures.0 c.findings-at.ensures.1)
