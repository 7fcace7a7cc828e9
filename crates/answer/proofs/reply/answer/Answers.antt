-- `answer::reply::answer` meets its contract. Assumes nothing.
use Rattle.std.proofs.Common.{ap, length, sym, ℕ, ◌∙◌}
use Rattle.std.proofs.lemmas.List.{length-replicate}
use Rattle.store.specs.Layout.{size}
use Rattle.store.specs.laws.Laid.{laid_of}
use Rattle.why.specs.laws.Gather.{searched-by}
use Rattle.answer.specs.laws.Reply.{known-judges, known-opens, reply-refused}
use Rattle.answer.proofs.reply.answer.Goals as goal

pub layout-at-requires : goal.layout-at-requires
layout-at-requires c = c.requires.2

pub fill_blank-e-requires : goal.fill_blank-e-requires
fill_blank-e-requires c = let e = c.layout-at.ensures in
    (rw e c.requires.0, rw e c.requires.1, laid_of e (ap length c.requires.0 ∙ length-replicate {A = ℕ} (size c.args.width) 0) c.requires.2, rw e c.requires.3)

pub returns-in-Err : goal.returns-in-Err
returns-in-Err c = reply-refused (rw c.layout-at.ensures at c.fill_blank-e.ensures) c.in-Err.is c.refuse.ensures

pub finding-requires : goal.finding-requires
finding-requires c = let k = known-opens c.fill_blank-e.ensures c.in_default.is in
    (k, sym c.about_finding.ensures ∙ c.if-about_finding.true, laid_of c.layout-at.ensures (rw c.layout-at.ensures at k.held.store.long) c.requires.2, searched-by c.layout-at.ensures c.requires.3 (known-judges k c.fill_blank-e.ensures.tidy).store.fits c.requires.4)

pub returns-then-about_finding : goal.returns-then-about_finding
returns-then-about_finding c = rw c.layout-at.ensures at (c.finding.ensures.reply _ (sym c.bare-q.ensures))

pub cell-requires : goal.cell-requires
cell-requires c = let k = known-opens c.fill_blank-e.ensures c.in_default.is in
    (k, laid_of c.layout-at.ensures (rw c.layout-at.ensures at k.held.store.long) c.requires.2, searched-by c.layout-at.ensures c.requires.3 (known-judges k c.fill_blank-e.ensures.tidy).store.fits c.requires.4)

pub returns : goal.returns
returns c = rw c.layout-at.ensures at (c.cell.ensures.reply _ (sym c.bare-q.ensures) (sym c.about_finding.ensures ∙ c.if-about_finding.false))
