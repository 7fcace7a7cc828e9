-- `links::reach::backward` meets its contract. The loop's invariant is the contract below `y`. Assumes nothing.
use Rattle.std.proofs.Common.{◌∙◌, arith}
use Rattle.logic.specs.laws.Decides.{decides-yes}
use Rattle.row.specs.laws.Marks.{marks-done, marks-more}
use Rattle.links.specs.laws.Reach.{marks-pass, reached-back}
use Rattle.links.proofs.reach.backward.Goals as goal
use Rattle.links.proofs.reach.backward.Goals.{then-links_meet, else-links_meet}

pub loop-y-preserved : goal.loop-y-preserved
loop-y-preserved c = let meets = reached-back c.args.role.0 c.loop-y.y c.links_meet.ensures in
    elim c.if-links_meet.branch [
      | then-links_meet w ↦ rw w.r-is (w.mark.ensures.len ∙ c.loop-y.invariant.0, marks-more c.loop-y.invariant.1 (decides-yes (meets.holds w.if-links_meet.true)) w.mark.ensures)
      | else-links_meet w ↦ rw w.r-is (c.loop-y.invariant.0, marks-pass c.loop-y.invariant.1 (meets.fails w.if-links_meet.false))
    ]

pub returns : goal.returns
returns c = marks-done c.loop-y.invariant.1 c.loop-y.auto.y-end (omega arith)
