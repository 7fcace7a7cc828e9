-- `convert::carry::carry` meets its contract. Assumes nothing.
use Rattle.store.specs.laws.Width.{laid_by}
use Rattle.convert.specs.laws.Moved.{carried-moved}
use Rattle.convert.proofs.carry.carry.Goals as goal

pub parts-requires : goal.parts-requires
parts-requires c = let from = c.layout_of-from.ensures in
    let to = c.layout_of-to.ensures in
    let pre = c.requires in
    (laid_by from pre.0.long, laid_by to pre.1.long, rw from pre.0.fits, rw to pre.1.fits)

pub returns : goal.returns
returns c = let pre = c.requires in
    carried-moved pre.0 pre.1.fits pre.1.long (λ i. (c.type_inv.t i).fits)
    (rw (c.layout_of-from.ensures, c.layout_of-to.ensures) at c.parts.ensures)
