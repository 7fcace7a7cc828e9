-- `judge::findings::seek` meets its contract: a rule of two roots by whole rows, others row by row. The loop's invariant: no row passed has a finding. Assumes nothing.
use Rattle.store.specs.own.View.{held}
use Rattle.judge.specs.own.Cursor.{Gone}
use Rattle.judge.proofs.findings.seek.Given as goal

abbrev pub invariant-loop-x : goal.invariant-loop-x
invariant-loop-x l = Gone (held l.view) l.view.counts l.plan l.from l.x
