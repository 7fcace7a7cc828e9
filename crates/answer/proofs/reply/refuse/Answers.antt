-- `answer::reply::refuse` meets its contract. Assumes nothing.
use Rattle.std.proofs.Common.{arith}
use Rattle.answer.specs.laws.Reply.{fitted-not, fitted-whole}
use Rattle.answer.proofs.reply.refuse.Goals as goal

pub returns-then-room-n : goal.returns-then-room-n
returns-then-room-n c = fitted-not c.refused-n.ensures.0 (omega (arith, c.refused-n.ensures.1)) c.if-room-n.true

pub returns : goal.returns
returns c = fitted-whole c.refused-n.ensures.0 (omega (arith, c.if-room-n.false)) c.refused.ensures.0 (omega (arith, c.refused.ensures.1))
