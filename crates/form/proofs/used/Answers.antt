-- `form::used` meets its contract. The loop's invariant: the uses of the nodes passed are counted. Assumes nothing.
use Rattle.std.proofs.Common.{sym, arith}
use Rattle.form.specs.laws.Form.{uses_below-more, uses_below-none}
use Rattle.form.proofs.used.Goals as goal

pub loop-i-init : goal.loop-i-init
loop-i-init c = (sym (uses_below-none _ _), omega arith)

pub loop-i-preserved : goal.loop-i-preserved
loop-i-preserved c = (rw (uses_below-more, ← c.node_at.ensures) (cc (c.loop-i.invariant.0, c.used_by-n.ensures.0)), omega (arith, c.used_by-n.ensures.1))
