-- `judge::findings::ones` meets its contract: the set bits are the numbers. Assumes nothing.
use Rattle.std.specs.Prelude.{get_or, ℕ}
use Rattle.std.proofs.Common.{Fits, rules, w64}
use Rattle.row.specs.Bit.{Words}
use Rattle.judge.specs.laws.Cursor.{row_number, row-total}
use Rattle.judge.proofs.findings.ones.Goals as goal

pub returns : goal.returns
returns c = let r = c.args.r.now in
    let f : (i : ℕ) → Fits w64 (get_or r i 0) = λ i. search rules in
    let w : Words 64 r = λ i. (f i).fits in
    rw c.count.ensures (row_number r w, row-total r w (search rules))
