-- `why::gather::gather` meets its contract: the first n numbers are those of the n statements passed. Assumes nothing.
use Rattle.std.proofs.Common.{◌≡◌, List, ◌+◌, ◌-◌, ◌≤◌, length, take}
use Rattle.sheet.specs.Said.{SheetStatement}
use Rattle.field.specs.own.Table.{table_of}
use Rattle.why.specs.own.Asked.{Of}
use Rattle.why.specs.own.Gather.{Numbers, statement_limit}
use Rattle.why.specs.laws.Stating.{Turn}
use Rattle.why.proofs.gather.gather.Given as goal

abbrev pub invariant-loop-q : goal.invariant-loop-q
invariant-loop-q l = Of l.known.sheet.now (table_of l.known.numbers.now l.known.counts) (λ x. Turn l.known.sheet.now (table_of l.known.numbers.now l.known.counts) x (λ (done : List SheetStatement). Numbers l.known.counts (take l.n l.codes) done) l.at l.line l.n) × (l.n ≤ statement_limit) × (length l.codes ≡ statement_limit)

abbrev pub decreases-loop-q : goal.decreases-loop-q
decreases-loop-q l = length l.known.sheet.now + 2 - l.at
