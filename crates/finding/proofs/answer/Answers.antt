-- `finding::answer` meets its contract. Assumes nothing.
use Rattle.std.proofs.Common.{refl, ap, ◌∙◌, Err}
use Rattle.std.proofs.lemmas.Result.{err_from_is_err_and}
use Rattle.store.specs.laws.Laid.{laid_of}
use Rattle.store.specs.laws.Width.{laid_by, width-wide}
use Rattle.sheet.specs.Promise.Reads.{wrong_size}
use Rattle.sheet.specs.laws.Count.{opens-judges}
use Rattle.sheet.specs.laws.Width.{width_some}
use Rattle.why.specs.laws.Gather.{searched-by}
use Rattle.finding.specs.Finding.ExplainsFinding.{refused}
use Rattle.finding.specs.laws.Explained.{finding-asked, finding-found, finding-not, finding-refused}
use Rattle.finding.proofs.answer.Goals as goal

pub returns-then-not-long : goal.returns-then-not-long
returns-then-not-long c = refused (wrong_size (c.long.ensures.fails c.if-not-long.true) refl) refl

pub fill-e-requires : goal.fill-e-requires
fill-e-requires c = let e = c.layout_of-at.ensures in (rw e c.requires.0, laid_by e (c.long.ensures.holds c.if-not-long.false), rw e (width_some _))

pub returns-in_err-e : goal.returns-in_err-e
returns-in_err-e c = let p = err_from_is_err_and c.from_residual.result c.from_residual.ensures.1 in
    rw (p.1 ∙ ap Err p.2) (finding-refused (rw c.layout_of-at.ensures at c.fill-e.ensures) (c.long.ensures.holds c.if-not-long.false) c.args.k c.args.a.0 c.args.room.now c.in_err-e.was)

pub broken-requires : goal.broken-requires
broken-requires c = let j = opens-judges c.fill-e.ensures c.in_ok-e.was in
    (j, laid_of c.layout_of-at.ensures (rw c.layout_of-at.ensures at j.store.long) (width-wide _))

pub returns-in_default : goal.returns-in_default
returns-in_default c = finding-not (rw c.layout_of-at.ensures at c.fill-e.ensures) (c.long.ensures.holds c.if-not-long.false) c.args.k c.args.a.0 c.args.room.now c.in_ok-e.was (rw c.layout_of-at.ensures at c.in_default.ensures)

pub list-lines-requires : goal.list-lines-requires
list-lines-requires c = (
  finding-asked (rw c.layout_of-at.ensures at c.fill-e.ensures) (c.long.ensures.holds c.if-not-long.false) c.args.k c.args.a.0 c.args.room.now c.in_ok-e.was c.in-Some.s (rw c.layout_of-at.ensures at c.in-Some.ensures),
  searched-by c.layout_of-at.ensures (width_some _) (opens-judges c.fill-e.ensures c.in_ok-e.was).store.fits c.requires.1,
)

pub returns : goal.returns
returns c = finding-found (rw c.layout_of-at.ensures at c.fill-e.ensures) (c.long.ensures.holds c.if-not-long.false) c.args.k c.args.a.0 c.args.room.now c.in_ok-e.was c.in-Some.s (rw c.layout_of-at.ensures at c.in-Some.ensures) c.list-lines.ensures
