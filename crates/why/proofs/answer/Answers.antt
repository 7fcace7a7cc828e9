-- `why::answer` meets its contract. Assumes nothing.
use Rattle.std.proofs.Common.{refl, ap, ◌∙◌, Err}
use Rattle.std.proofs.lemmas.Result.{err_from_is_err_and}
use Rattle.store.specs.Cell.{cell_of}
use Rattle.store.specs.laws.Laid.{laid_of}
use Rattle.store.specs.laws.Width.{laid_by, width-wide}
use Rattle.sheet.specs.Promise.Reads.{wrong_size}
use Rattle.sheet.specs.laws.Count.{opens-judges}
use Rattle.sheet.specs.laws.Width.{width_some}
use Rattle.why.specs.Promise.Explains.{refused}
use Rattle.why.specs.laws.Explained.{explains-asked, explains-found, explains-not, explains-refused}
use Rattle.why.specs.laws.Gather.{searched-by}
use Rattle.why.proofs.answer.Goals as goal

pub returns-then-not-long : goal.returns-then-not-long
returns-then-not-long c = refused (wrong_size (c.long.ensures.fails c.if-not-long.true) refl) refl

pub fill-e-requires : goal.fill-e-requires
fill-e-requires c = let e = c.layout_of-at.ensures in (rw e c.requires.0, laid_by e (c.long.ensures.holds c.if-not-long.false), rw e (width_some _))

pub returns-in_err-e : goal.returns-in_err-e
returns-in_err-e c = let p = err_from_is_err_and c.from_residual.result c.from_residual.ensures.1 in
    rw (p.1 ∙ ap Err p.2) (explains-refused (rw c.layout_of-at.ensures at c.fill-e.ensures) (c.long.ensures.holds c.if-not-long.false) (cell_of c.args.cell) c.args.room.now c.in_err-e.was)

pub invariant_of-view : goal.invariant_of-view
invariant_of-view c = let s = (opens-judges c.fill-e.ensures c.in_ok-e.was).store in
    record { laid = laid_of c.layout_of-at.ensures (rw c.layout_of-at.ensures at s.long) (width-wide _); closed = s }

pub returns-then-not-told : goal.returns-then-not-told
returns-then-not-told c = explains-not (rw c.layout_of-at.ensures at c.fill-e.ensures) (c.long.ensures.holds c.if-not-long.false) (cell_of c.args.cell) c.args.room.now c.in_ok-e.was ((rw c.layout_of-at.ensures at c.told.ensures).fails c.if-not-told.true)

pub list-requires : goal.list-requires
list-requires c = (
  explains-asked (rw c.layout_of-at.ensures at c.fill-e.ensures) (c.long.ensures.holds c.if-not-long.false) (cell_of c.args.cell) c.args.room.now c.in_ok-e.was ((rw c.layout_of-at.ensures at c.told.ensures).holds c.if-not-told.false),
  searched-by c.layout_of-at.ensures (width_some _) (opens-judges c.fill-e.ensures c.in_ok-e.was).store.fits c.requires.1,
)

pub returns : goal.returns
returns c = explains-found (rw c.layout_of-at.ensures at c.fill-e.ensures) (c.long.ensures.holds c.if-not-long.false) (cell_of c.args.cell) c.args.room.now c.in_ok-e.was c.list.ensures
