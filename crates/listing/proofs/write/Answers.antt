-- `listing::write` meets its contract. Assumes nothing.
use Rattle.std.proofs.Common.{add-one, arith}
use Rattle.judge.specs.own.Search.Met.{more, start}
use Rattle.listing.specs.laws.Written.{wrote-more, wrote-start}
use Rattle.listing.proofs.write.Goals as goal

pub loop-i-init : goal.loop-i-init
loop-i-init c = (wrote-start start, c.requires.1)

pub loop-i-preserved : goal.loop-i-preserved
loop-i-preserved c = (rw add-one (wrote-more (omega arith) c.loop-i.invariant.0 (λ fs m. more m c.step-c.ensures)), λ h. c.step-c.ensures.ready)
