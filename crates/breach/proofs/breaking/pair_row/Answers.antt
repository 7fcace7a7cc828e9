-- `breach::breaking::pair_row` meets its contract: the pair that a rule names breaks it by what the store says of the two. Assumes nothing.
use Rattle.logic.specs.laws.Decides.{decides_not}
use Rattle.breach.specs.laws.Pairs.{named-is}
use Rattle.breach.proofs.breaking.pair_row.Goals as goal

pub returns-in-Same : goal.returns-in-Same
returns-in-Same c = rw c.in-Same.is (named-is c.named-in-Same.ensures (decides_not c.same.ensures))

pub returns-in-Differ : goal.returns-in-Differ
returns-in-Differ c = rw c.in-Differ.is (named-is c.named-in-Differ.ensures c.same-in-Differ.ensures)
