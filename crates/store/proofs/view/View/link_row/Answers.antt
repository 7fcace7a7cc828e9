-- `store::view::View::link_row` meets its contract: the row lies within the part of the links. Assumes nothing.
use Rattle.std.proofs.Common.{arith}
use Rattle.store.specs.laws.Look.{link-row-within}
use Rattle.store.specs.laws.Parts.{item-lt, role-lt}
use Rattle.store.proofs.view.View.link_row.Goals as goal

pub returns : goal.returns
returns c = let v = c.args.self.now in
    let e = c.args.self.now.laid.link in
    omega (arith, e, v.laid.long, link-row-within v.at.width c.args.r.0 c.args.a.0 (role-lt v.closed.fits c.requires.0) (item-lt v.closed.fits c.requires.1))
