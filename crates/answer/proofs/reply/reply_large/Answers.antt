-- `answer::reply::reply_large` meets its contract. Assumes nothing.
use Rattle.std.proofs.Common.{arith, refl}
use Rattle.store.specs.Layout.{large}
use Rattle.why.specs.laws.Gather.{lent-blank}
use Rattle.answer.proofs.reply.reply_large.Goals as goal

pub reply_with-requires : goal.reply_with-requires
reply_with-requires c = (refl, omega arith, omega arith, omega arith, omega arith, omega arith, lent-blank large (omega arith), omega arith)
