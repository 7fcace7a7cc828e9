-- `links::reach::path_row` meets its contract: the row of x's links, then a step for each role more that counts. Assumes nothing.
use Rattle.std.proofs.Common.{arith}
use Rattle.store.specs.own.View.{held}
use Rattle.links.specs.laws.Reach.{ends_last, ends_more, path-first, take-four}
use Rattle.links.proofs.reach.path_row.Goals as goal

pub returns-then-k-eq2 : goal.returns-then-k-eq2
returns-then-k-eq2 c = let C = held c.args.view.now in
    let n = c.args.view.now.counts in
    rw c.if-k-eq2.true
    (path-first C n c.args.x c.links-first.result c.args.a c.links-first.ensures
    (ends_last C n c.links-first.result c.step_row-second.result c.args.b c.step_row-second.ensures))

pub returns-then-k-eq3 : goal.returns-then-k-eq3
returns-then-k-eq3 c = let C = held c.args.view.now in
    let n = c.args.view.now.counts in
    rw c.if-k-eq3.true
    (path-first C n c.args.x c.links-first.result c.args.a c.links-first.ensures
    (ends_more C n c.links-first.result c.step_row-second.result c.args.b c.step_row-second.ensures
    (ends_last C n c.step_row-second.result c.step_row-third.result c.args.c c.step_row-third.ensures)))

pub returns : goal.returns
returns c = let C = held c.args.view.now in
    let n = c.args.view.now.counts in
    rw (take-four c.args.k c.args.a c.args.b c.args.c c.args.d (omega (arith, c.if-k-eq0.false, c.if-k-eq1.false, c.if-k-eq2.false, c.if-k-eq3.false)))
    (path-first C n c.args.x c.links-first.result c.args.a c.links-first.ensures
    (ends_more C n c.links-first.result c.step_row-second.result c.args.b c.step_row-second.ensures
    (ends_more C n c.step_row-second.result c.step_row-third.result c.args.c c.step_row-third.ensures
    (ends_last C n c.step_row-third.result c.step_row.result c.args.d c.step_row.ensures))))
