-- `answer::reply::reply_with` meets its contract. Assumes nothing.
use Rattle.std.proofs.Common.{arith, ℕ}
use Rattle.std.proofs.lemmas.List.{length-replicate}
use Rattle.answer.proofs.reply.reply_with.Goals as goal

pub answer-requires : goal.answer-requires
answer-requires g c = (rw c.requires.0, omega (arith, length-replicate {A = ℕ} g.row.N 0, c.requires.2), c.requires.4, c.requires.5, c.requires.6)
