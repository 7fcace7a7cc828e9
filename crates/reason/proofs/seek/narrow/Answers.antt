-- `reason::seek::narrow` meets its contract: those marked are narrowed to, and the table is made of them. Assumes nothing.
use Rattle.std.proofs.Common.{arith}
use Rattle.reason.specs.laws.Seek.{narrowing-less, narrowing-place, narrowing-start, narrowing-step, narrowing-stop}
use Rattle.reason.proofs.seek.narrow.Goals as goal

pub narrowing-init : goal.narrowing-init
narrowing-init c = narrowing-start c.requires c.build.ensures

pub mark-requires : goal.mark-requires
mark-requires c = (c.narrowing.invariant.wide, omega (arith, narrowing-place c.requires c.narrowing.invariant c.reached.ensures c.narrowing-test.true c.add_until-end.ensures, c.requires.few))

pub narrowing-smaller : goal.narrowing-smaller
narrowing-smaller c = narrowing-less c.requires c.narrowing.invariant c.reached.ensures c.narrowing-test.true c.add_until-end.ensures

pub narrowing-preserved : goal.narrowing-preserved
narrowing-preserved c = narrowing-step c.requires c.narrowing.invariant c.reached.ensures c.narrowing-test.true c.add_until-end.ensures c.mark.ensures c.build-in-narrowing.ensures

pub returns : goal.returns
returns c = narrowing-stop c.requires c.narrowing.invariant c.reached.ensures c.narrowing-test.false
