-- `store::view::View::back_row` meets its contract: the bit of x is gathered from the rows of the links. Assumes nothing.
use Rattle.std.specs.Prelude.{ℕ, ◌+◌, ◌/◌}
use Rattle.std.proofs.Common.{ap, arith}
use Rattle.store.specs.laws.Parts.{item-lt, role-lt}
use Rattle.store.specs.laws.Look.{back-marks, column-within}
use Rattle.store.proofs.view.View.back_row.Goals as goal

pub column-requires : goal.column-requires
column-requires c = let v = c.args.self.now in
    omega (arith, c.link_row.ensures.0, v.laid.long, v.laid.wide, v.closed.fits.items, column-within v.at.width c.args.r.0 c.args.x.0 v.counts.items (role-lt v.closed.fits c.requires.0) (item-lt v.closed.fits c.requires.1) v.closed.fits.items)

pub returns : goal.returns
returns c = back-marks c.args.r.0 c.args.x.0 c.args.self.now.closed c.requires.1 (ap (λ (i : ℕ). i + c.args.x.0 / 64) c.link_row.ensures.0) c.column.ensures
