-- `judge::findings::count_rows` meets its contract. The loop's invariant: the findings in the rows passed are counted. Assumes nothing.
use Rattle.std.specs.Prelude.{◌*◌, ◌≤◌}
use Rattle.logic.specs.Number.{Number}
use Rattle.row.specs.own.Pick.{room}
use Rattle.store.specs.own.View.{held}
use Rattle.judge.specs.own.Cursor.{BrokenBelow}
use Rattle.judge.proofs.findings.count_rows.Given as goal

abbrev pub invariant-loop-x : goal.invariant-loop-x
invariant-loop-x l = (l.n ≤ 64 * room * l.x) × Number (BrokenBelow (held l.view) l.view.counts l.plan l.x) l.n
