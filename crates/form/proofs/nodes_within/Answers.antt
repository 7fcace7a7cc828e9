-- `form::nodes_within` meets its contract. Assumes nothing.
use Rattle.std.proofs.Common.{refl, arith, rules}
use Rattle.std.proofs.lemmas.Iterator.{YieldsList-from_range}
use Rattle.form.proofs.All.{all_below}
use Rattle.form.proofs.nodes_within.Goals as goal

pub returns : goal.returns
returns c = all_below _ _ _ _ _ c.all.ensures.ran (YieldsList-from_range 0 _ _ refl (omega arith)) (λ x b q k. search rules)
