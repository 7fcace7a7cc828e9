-- `text::write::put_all` meets its contract. Assumes nothing.
use Rattle.std.specs.Prelude.{◌≡◌, ◌+◌, refl}
use Rattle.std.proofs.Common.{sym, ◌∙◌, arith, length-set}
use Rattle.text.specs.laws.Text.{sets-done, sets-on}
use Rattle.text.proofs.write.put_all.Goals as goal

pub loop-i-init : goal.loop-i-init
loop-i-init c = let k : c.args.at ≡ c.args.at + 0 = omega arith in (refl, rw (← k))

pub loop-i-preserved : goal.loop-i-preserved
loop-i-preserved c = let v = c.loop-i in
    (length-set v.room _ _ ∙ v.invariant.0, v.invariant.1 ∙ sets-on _ _ _ v.i (omega arith))

pub returns : goal.returns
returns c = let v = c.loop-i in
    record {
      here = sym (v.invariant.1 ∙ sets-done _ _ _ v.i (omega (arith, v.invariant.0)));
      next = refl;
    }
