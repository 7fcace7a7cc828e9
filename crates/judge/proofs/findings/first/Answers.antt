-- `judge::findings::first` meets its contract: from the first row on there are all; where there is none, from the end on. Assumes nothing.
use Rattle.logic.specs.laws.Number.{number_at}
use Rattle.store.specs.own.View.{held}
use Rattle.judge.specs.laws.Cursor.{sought-begins, sought-none}
use Rattle.judge.proofs.findings.first.Goals as goal

pub returns-then-total-eq0 : goal.returns-then-total-eq0
returns-then-total-eq0 c = let n = c.args.view.now.counts in
    sought-begins (sought-none (held c.args.view.now) n c.args.plan (number_at c.if-total-eq0.true c.requires) c.seek.ensures)

pub returns : goal.returns
returns c = sought-begins c.seek-2.ensures
