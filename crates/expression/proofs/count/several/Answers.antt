-- `expression::count::several` meets its contract. The loop's invariant is the contract below `x`. Assumes nothing.
use Rattle.std.proofs.Common.{arith, rules, ◌∙◌}
use Rattle.logic.specs.laws.Decides.{decides-le}
use Rattle.row.specs.laws.Marks.{marks-done, marks-more, marks-skip}
use Rattle.links.specs.laws.Reach.{none_between}
use Rattle.expression.specs.laws.Many.{several-articles, several-none, several-some}
use Rattle.expression.proofs.count.several.Goals as goal

pub keep_leaders-requires : goal.keep_leaders-requires
keep_leaders-requires c = (search rules, λ x h. (c.reached-lead.ensures.sound x h).0)

pub returns-then-size-k : goal.returns-then-size-k
returns-then-size-k c = let reached = c.reached-lead in
    several-none c.args.p.now c.args.q.now reached.result c.args.u c.args.view.now.closed c.requires.1 reached.ensures c.keep_leaders.ensures.1 c.size.ensures c.if-size-k.true c.empty-r.ensures

pub loop-x-preserved-then-has : goal.loop-x-preserved-then-has
loop-x-preserved-then-has c = let reached = c.reached-lead in
    let inside = c.loop-x-test.true in
    let here = c.has.ensures.holds c.if-has.true in
    let count = c.linked_count-n.ensures in
    let lead = c.keep_leaders.ensures.1 in
    let told = several-articles c.args.p.now c.args.q.now reached.result c.args.u c.loop-x.x c.args.view.now.closed reached.ensures lead inside here count (decides-le c.args.k _) in
    (omega (arith, inside), c.mark.ensures.len ∙ c.loop-x.invariant.1, marks-more c.loop-x.invariant.2 told c.mark.ensures)

pub loop-x-preserved : goal.loop-x-preserved
loop-x-preserved c = let none = none_between (c.has.ensures.fails c.if-has.false) c.next-x.ensures in
    (c.next-x.ensures.within, c.loop-x.invariant.1, marks-skip c.loop-x.invariant.2 (omega (arith, c.next-x.ensures.from)) (λ z l h. several-some c.args.u c.args.k z c.requires.0 c.requires.1 (omega (arith, c.next-x.ensures.within)) (none z l h)))

pub returns : goal.returns
returns c = marks-done c.loop-x.invariant.2 c.loop-x.invariant.0 (omega arith)
