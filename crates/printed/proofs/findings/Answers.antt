-- `printed::findings` meets its contract: i findings are written. Assumes nothing.
use Rattle.std.proofs.Common.{◌≡◌, arith, refl, ◌∙◌}
use Rattle.printed.specs.laws.Written.{reached-all, reached-more, reached-start}
use Rattle.printed.proofs.findings.Goals as goal

pub loop-i-init : goal.loop-i-init
loop-i-init c = (refl, omega arith, c.requires.2, reached-start _ _ _ _ _ _)

pub loop-i-preserved : goal.loop-i-preserved
loop-i-preserved c = let w = c.loop-i in
    let f = c.finding-p in
    (f.auto.room ∙ w.invariant.0, omega (arith, f.ensures.1, w.invariant.1), λ l. c.step-c.ensures.ready, reached-more w.invariant.3 c.step-c.ensures f.ensures.0)

pub returns : goal.returns
returns c = let e : c.loop-i._i ≡ c.args.n = omega arith in (reached-all (rw e at c.loop-i.invariant.3), rw e at c.loop-i.invariant.1)
