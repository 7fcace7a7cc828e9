-- `convert::carry::links` meets its contract. The loop's invariant is the contract up to role `r`. Assumes nothing.
use Rattle.convert.specs.own.Carry.{BlocksMoved}
use Rattle.convert.proofs.carry.links.Given as goal

abbrev pub invariant-loop-r : goal.invariant-loop-r
invariant-loop-r l = BlocksMoved l.s l.from.link l.old l.to.link l.new l.counts.items l.r l.initial.t l.t
