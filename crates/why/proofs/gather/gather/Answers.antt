-- `why::gather::gather` meets its contract: the first n numbers are those of the n statements passed. Assumes nothing.
use Rattle.std.proofs.Common.{arith, length, length-set, ◌<◌, ◌∙◌}
use Rattle.store.specs.Cell.{cell_of}
use Rattle.why.specs.own.Stating.{found_statement}
use Rattle.reason.specs.laws.Code.{within-small}
use Rattle.why.specs.laws.Few.{turn-few}
use Rattle.why.specs.laws.Gather.{numbers_more, numbers-none, within-table}
use Rattle.why.specs.laws.Stating.{turn_end, turn-next, turn-passing, turn-paused, turn-start, turn-within}
use Rattle.why.proofs.gather.gather.Goals as goal

pub loop-q-init : goal.loop-q-init
loop-q-init c = ((λ W x o m. turn-start W c.second_line-at.ensures o m (numbers-none c.args.codes.now)), omega arith, c.requires.1)

pub next-requires : goal.next-requires
next-requires c = let a = c.requires.0 in turn-paused (c.loop-q.invariant.0 a.width a.said a.ends a.names)

pub code-requires : goal.code-requires
code-requires c = let a = c.requires.0 in
    let k = c.args.known.now in
    let w = c.loop-q.invariant.0 a.width a.said a.ends a.names in
    within-small c.in-Some.q.statement (omega arith) (within-table k.sheet.now a.said.names (cell_of c.in-Some.q.statement) k.tidy a.names (turn-within w (rw c.in-Some.is at c.next.ensures))) k.tidy.room

pub bounds-codes-n : goal.bounds-codes-n
bounds-codes-n c = let a = c.requires.0 in
    omega (arith, turn-few _ (c.loop-q.invariant.0 a.width a.said a.ends a.names) (rw c.in-Some.is at c.next.ensures) a.ends)

pub overflow_add-line : goal.overflow_add-line
overflow_add-line c = let a = c.requires.0 in
    let p = turn-passing (c.loop-q.invariant.0 a.width a.said a.ends a.names) (rw c.in-Some.is at c.next.ensures) in
    omega (arith, p.near, p.inside, p.short)

pub loop-q-smaller : goal.loop-q-smaller
loop-q-smaller c = let a = c.requires.0 in
    let p = turn-passing (c.loop-q.invariant.0 a.width a.said a.ends a.names) (rw c.in-Some.is at c.next.ensures) in
    omega (arith, p.inside, c.next.ensures.later _ c.in-Some.is)

pub loop-q-preserved : goal.loop-q-preserved
loop-q-preserved c = let a = c.requires.0 in
    let k = c.args.known.now in
    let q = c.in-Some.q in
    let z = rw c.in-Some.is at c.next.ensures in
    let few = turn-few _ (c.loop-q.invariant.0 a.width a.said a.ends a.names) z a.ends in
    let room : c.loop-q.n < length c.loop-q.codes = omega (arith, few, c.loop-q.invariant.2) in (
      (λ W x o m.
          let w = c.loop-q.invariant.0 W x o m in
          turn-next w z
          (numbers_more c.loop-q.codes c.loop-q.n c.code.result (found_statement q) room c.code.ensures
          (within-table k.sheet.now x.names (cell_of q.statement) k.tidy m (turn-within w z)) w.holds)),
      omega (arith, few),
      length-set c.loop-q.codes c.loop-q.n c.code.result ∙ c.loop-q.invariant.2,
    )

pub returns : goal.returns
returns c = record { numbers = λ W x o m. turn_end (c.loop-q.invariant.0 W x o m) (rw c.in_default.is at c.next.ensures); few = c.loop-q.invariant.1; long = c.loop-q.invariant.2 }
