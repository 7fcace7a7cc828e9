-- `convert::convert` meets its contract: the lowest number that applies, or the cells moved, of which there are as many as set bits. Assumes nothing.
use mathlib.Core.Path.{ap, refl, sym, ◌∙◌}
use native.Mathlib.Omega.{arith}
use Rattle.logic.specs.laws.Number.{number_at}
use Rattle.store.specs.Layout.{size}
use Rattle.store.specs.laws.Cells.{cells-number}
use Rattle.store.specs.laws.Width.{laid_by, size_small, width-wide}
use Rattle.convert.specs.declared.Refusal.TheVariants.{Size, NotClosed, TooMany}
use Rattle.convert.specs.Promise.Converts.{refused as convert-refused, moved as convert-moved}
use Rattle.convert.proofs.laws.Refusals.{fits-other, none-applies, refused-1, refused-2, refused-26}
use Rattle.convert.specs.laws.Width.{other_width-long}
use Rattle.convert.proofs.convert.Goals as goal

pub returns-then-not-pair : goal.returns-then-not-pair
returns-then-not-pair c = convert-refused {k = Size} (refused-1 (c.pair.ensures.fails c.if-not-pair.true)) refl

pub is_closed-requires : goal.is_closed-requires
is_closed-requires c = let p = c.pair.ensures.holds c.if-not-pair.false in (laid_by c.layout_of-at.ensures p.source.long, rw c.layout_of-at.ensures p.source.fits)

pub returns-then-not-is_closed : goal.returns-then-not-is_closed
returns-then-not-is_closed c = let p = c.pair.ensures.holds c.if-not-pair.false in
    convert-refused {k = NotClosed} (refused-2 p (rw c.layout_of-at.ensures at (c.is_closed.ensures.fails c.if-not-is_closed.true))) refl

pub no_place-requires : goal.no_place-requires
no_place-requires c = rw c.width.ensures (width-wide _)

pub returns-then-no_place : goal.returns-then-no_place
returns-then-no_place c = let p = c.pair.ensures.holds c.if-not-pair.false in
    let to = c.width.ensures ∙ other_width-long _ _ p.target in
    convert-refused {k = TooMany} (refused-26 p (rw c.layout_of-at.ensures at (c.is_closed.ensures.holds c.if-not-is_closed.false)) (rw to at (c.no_place.ensures.holds c.if-no_place.true))) refl

pub carry-requires : goal.carry-requires
carry-requires c = let p = c.pair.ensures.holds c.if-not-pair.false in
    let fit = fits-other p.source.fits (rw c.width.ensures at (c.no_place.ensures.fails c.if-no_place.false)) in
    (rw c.layout_of-at.ensures at (c.is_closed.ensures.holds c.if-not-is_closed.false), record { long = p.target ∙ ap size (sym (other_width-long _ _ p.target)); fits = fit })

pub count-requires : goal.count-requires
count-requires c = let p = c.pair.ensures.holds c.if-not-pair.false in omega (arith, p.source.long, size_small (width-wide c.args.source.now))

pub returns : goal.returns
returns c = let p = c.pair.ensures.holds c.if-not-pair.false in
    let k = rw c.layout_of-at.ensures at (c.is_closed.ensures.holds c.if-not-is_closed.false) in
    let to = other_width-long _ _ p.target in
    let place = rw (c.width.ensures ∙ to) at (c.no_place.ensures.fails c.if-no_place.false) in
    convert-moved (none-applies p k place) (rw to at c.carry.ensures) (number_at (sym c.count.ensures) (cells-number k (λ i. (c.type_inv.source i).fits)))
