-- `row::pick::meet` meets its contract. The loop's invariant is the contract up to `h`, word by word. Assumes nothing.
use Rattle.std.specs.Int.Bits.{bit_and}
use Rattle.row.specs.laws.Pick.{Zipped}
use Rattle.row.proofs.pick.meet.Given as goal

abbrev pub invariant-loop-h : goal.invariant-loop-h
invariant-loop-h l = Zipped bit_and l.a l.b l.h l.r
