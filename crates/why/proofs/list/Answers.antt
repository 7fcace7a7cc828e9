-- `why::list` meets its contract. Assumes nothing.
use Rattle.std.proofs.Common.{ℕ}
use Rattle.std.proofs.lemmas.List.{length-replicate}
use Rattle.reason.specs.own.Picked.{mark_words}
use Rattle.reason.specs.laws.Picked.{clear-zeros}
use Rattle.why.specs.laws.Explained.{answered}
use Rattle.why.proofs.list.Goals as goal

pub reasoned-requires : goal.reasoned-requires
reasoned-requires c = (c.requires.0, length-replicate {A = ℕ} mark_words 0, clear-zeros mark_words, c.requires.1)

pub returns : goal.returns
returns c = answered c.reasoned.ensures c.write.ensures
