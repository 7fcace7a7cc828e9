-- `breach::breaking::places` meets its contract, by whether the rule is broken by pairs. Assumes nothing.
use Rattle.std.proofs.Common.{◌∙◌, sym}
use Rattle.store.specs.own.View.{held}
use Rattle.breach.specs.laws.Plan.{alone-places, pair-places}
use Rattle.breach.proofs.breaking.places.Goals as goal

pub returns-then-is_pair : goal.returns-then-is_pair
returns-then-is_pair c = let v = c.args.view.now in pair-places (held v) v.counts c.args.plan c.args.x (sym c.is_pair.ensures ∙ c.if-is_pair.true) c.pair_row.ensures

pub returns : goal.returns
returns c = let v = c.args.view.now in alone-places (held v) v.counts c.args.plan c.args.x (sym c.is_pair.ensures ∙ c.if-is_pair.false) c.requires c.breaks_alone-on.ensures c.empty-r.ensures c.mark.ensures
