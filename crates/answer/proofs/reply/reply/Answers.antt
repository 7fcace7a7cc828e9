-- `answer::reply::reply` meets its contract. Assumes nothing.
use Rattle.std.proofs.Common.{arith, refl}
use Rattle.store.specs.Layout.{small}
use Rattle.why.specs.laws.Gather.{lent-blank}
use Rattle.answer.proofs.reply.reply.Goals as goal

pub reply_with-requires : goal.reply_with-requires
reply_with-requires c = (refl, omega arith, omega arith, omega arith, omega arith, omega arith, lent-blank small (omega arith), omega arith)
