-- `text::chunk::same_at` meets its contract. Assumes nothing.
use Rattle.text.specs.own.Chunk.{Agree}
use Rattle.text.proofs.chunk.same_at.Given as goal

abbrev pub invariant-loop-i : goal.invariant-loop-i
invariant-loop-i l = Agree l.text l.start l.w l.i
