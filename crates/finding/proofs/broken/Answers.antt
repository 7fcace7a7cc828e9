-- `finding::broken` meets its contract. Assumes nothing.
use Rattle.finding.specs.laws.Finding.{broken-left, broken-none, broken-other, broken-right, broken-yes}
use Rattle.finding.proofs.broken.Goals as goal

pub returns-in_err-u : goal.returns-in_err-u
returns-in_err-u c = λ W x o m. rw c.from_residual.ensures (broken-none (c.in_err-u.ensures W x o m))

pub returns-in_err-s : goal.returns-in_err-s
returns-in_err-s c = λ W x o m. rw c.from_residual-in_err-s.ensures (broken-other (c.in_ok-u.ensures W x o m) c.in_err-s.ensures)

pub returns-then-not-told : goal.returns-then-not-told
returns-then-not-told c = λ W x o m. broken-left (c.in_ok-u.ensures W x o m) c.in_ok-s.ensures (c.told.ensures.fails c.if-not-told.true)

pub returns-then-told : goal.returns-then-told
returns-then-told c = λ W x o m. broken-right (c.in_ok-u.ensures W x o m) c.in_ok-s.ensures (c.told-2.ensures.holds c.if-told.true)

pub returns : goal.returns
returns c = λ W x o m. broken-yes (c.in_ok-u.ensures W x o m) c.in_ok-s.ensures (c.told.ensures.holds c.if-not-told.false) (c.told-2.ensures.fails c.if-told.false)
