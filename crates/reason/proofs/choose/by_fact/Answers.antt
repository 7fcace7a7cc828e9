-- `reason::choose::by_fact` meets its contract. Assumes nothing.
use Rattle.std.proofs.Common.{refl}
use Rattle.reason.specs.own.Picked.{mark_words}
use Rattle.reason.specs.laws.Explain.{joined-reaches}
use Rattle.reason.specs.laws.Path.{lent-on}
use Rattle.reason.specs.laws.Picked.{clear-zeros}
use Rattle.reason.proofs.choose.by_fact.Goals as goal

pub mark_same-requires : goal.mark_same-requires
mark_same-requires c = (c.requires.0, c.mark_above-n.ensures, lent-on c.mark_above-n.auto.same c.requires.1, record { wide = refl; clear = clear-zeros mark_words })

pub returns : goal.returns
returns c = joined-reaches c.requires.0 c.mark_above-n.ensures c.mark_same.ensures c.join.ensures
