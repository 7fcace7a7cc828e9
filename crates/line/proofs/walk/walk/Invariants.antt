-- `line::walk::walk` meets its contract. Assumes nothing.
use Rattle.std.proofs.Common.{◌≤◌, ◌*◌, drop}
use Rattle.field.specs.own.Known.{fields_in, names_in}
use Rattle.due.specs.own.Pending.{pending}
use Rattle.line.specs.own.Number.{found}
use Rattle.line.specs.laws.Walk.{Along}
use Rattle.line.proofs.walk.walk.Given as goal

abbrev pub invariant-loop-k : goal.invariant-loop-k
invariant-loop-k l = (l.p.exprs ≤ 2 * l.k) × (l.p.own ≤ l.k) × (l.nodes ≤ 4 * l.k)
    × Along (names_in l.known) l.l (pending l.l l.p) (drop l.from (fields_in l.fields)) (drop l.k (fields_in l.fields)) (found l.fault) l.nodes
