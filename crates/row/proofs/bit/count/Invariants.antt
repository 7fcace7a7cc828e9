-- `row::bit::count` meets its contract. The loop's invariant: `n` counts the words so far, and is at most 64 for each. Assumes nothing.
use Rattle.std.specs.Prelude.{◌≡◌, ◌≤◌, ◌*◌, take}
use Rattle.row.specs.Bit.{total}
use Rattle.row.proofs.bit.count.Given as goal

abbrev pub invariant-loop-w : goal.invariant-loop-w
invariant-loop-w l = (l.n ≤ 64 * l.w-index) × (l.n ≡ total (take l.w-index l.s))
