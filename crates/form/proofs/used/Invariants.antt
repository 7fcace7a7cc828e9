-- `form::used` meets its contract. The loop's invariant: the uses of the nodes passed are counted. Assumes nothing.
use Rattle.std.proofs.Common.{◌≡◌, ◌+◌, ◌≤◌}
use Rattle.rule.specs.Form.{uses_below}
use Rattle.form.proofs.used.Given as goal

abbrev pub invariant-loop-i : goal.invariant-loop-i
invariant-loop-i l = (l.n ≡ uses_below l.rule.nodes l.j l.i) × (l.n ≤ l.i + l.i)
