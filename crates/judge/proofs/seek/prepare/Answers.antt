-- `judge::seek::prepare` meets its contract: the lowest number that applies, or the search at the first finding. Assumes nothing.
use Rattle.store.specs.laws.Width.{laid_by}
use Rattle.judge.specs.laws.Search.{prepared-judged, prepared-refused}
use Rattle.judge.specs.laws.Refusals.{rule-refused-1, rule-refused-2, rule-refused-3, rule-refused-4}
use Rattle.judge.proofs.seek.prepare.Goals as goal

pub returns-then-not-sized : goal.returns-then-not-sized
returns-then-not-sized c = prepared-refused _ _ (rule-refused-1 (c.sized.ensures.fails c.if-not-sized.true)) c.stop.ensures

pub is_closed-requires : goal.is_closed-requires
is_closed-requires c = let z = c.sized.ensures.holds c.if-not-sized.false in
    (laid_by c.layout_of-at.ensures z.long, rw c.layout_of-at.ensures z.fits)

pub returns-then-not-is_closed : goal.returns-then-not-is_closed
returns-then-not-is_closed c = let z = c.sized.ensures.holds c.if-not-sized.false in
    prepared-refused _ _ (rule-refused-2 z (rw c.layout_of-at.ensures at (c.is_closed.ensures.fails c.if-not-is_closed.true))) c.stop-then-not-is_closed.ensures

pub returns-then-not-well_formed : goal.returns-then-not-well_formed
returns-then-not-well_formed c = let z = c.sized.ensures.holds c.if-not-sized.false in
    let m = rw c.layout_of-at.ensures at (c.is_closed.ensures.holds c.if-not-is_closed.false) in
    prepared-refused _ _ (rule-refused-3 z m (c.well_formed-2.ensures.fails c.if-not-well_formed.true)) c.stop-then-not-well_formed.ensures

pub returns-then-not-rule_within : goal.returns-then-not-rule_within
returns-then-not-rule_within c = let z = c.sized.ensures.holds c.if-not-sized.false in
    let m = rw c.layout_of-at.ensures at (c.is_closed.ensures.holds c.if-not-is_closed.false) in
    let f = c.well_formed-2.ensures.holds c.if-not-well_formed.false in
    prepared-refused _ _ (rule-refused-4 z m f (c.rule_within.ensures.fails c.if-not-rule_within.true)) c.stop-then-not-rule_within.ensures

pub start-requires : goal.start-requires
start-requires c = let z = c.sized.ensures.holds c.if-not-sized.false in
    (laid_by c.layout_of-at.ensures z.long, c.is_closed.ensures.holds c.if-not-is_closed.false)

pub returns : goal.returns
returns c = let z = c.sized.ensures.holds c.if-not-sized.false in
    let m = rw c.layout_of-at.ensures at (c.is_closed.ensures.holds c.if-not-is_closed.false) in
    let f = c.well_formed-2.ensures.holds c.if-not-well_formed.false in
    let n = c.rule_within.ensures.holds c.if-not-rule_within.false in
    prepared-judged (record { sized = z; store = m; form = f; within = n }) c.layout_of-at.ensures c.start.ensures
