-- `answer::reply::fit` meets its contract. Assumes nothing.
use Rattle.std.proofs.Common.{arith}
use Rattle.answer.specs.laws.Reply.{fitted-not, fitted-whole}
use Rattle.answer.proofs.reply.fit.Goals as goal

pub returns-then-room-n : goal.returns-then-room-n
returns-then-room-n c = record { fits = λ W x o. fitted-not (c.put_reason-n.ensures.wrote W x o) c.put_reason-n.ensures.short c.if-room-n.true }

pub returns : goal.returns
returns c = record { fits = λ W x o. fitted-whole (c.put_reason-n.ensures.wrote W x o) (omega (arith, c.if-room-n.false)) (c.put_reason.ensures.wrote W x o) c.put_reason.ensures.short }
