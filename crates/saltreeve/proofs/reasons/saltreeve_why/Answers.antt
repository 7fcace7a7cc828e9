-- `saltreeve::reasons::saltreeve_why` meets its contract. Assumes nothing.
use Rattle.std.proofs.Common.{arith, w64}
use Rattle.std.proofs.lemmas.Int.{to_z_pos}
use Rattle.saltreeve.specs.laws.Why.{why-long, why-written}
use Rattle.saltreeve.proofs.reasons.saltreeve_why.Goals as goal

pub returns-then-room-n : goal.returns-then-room-n
returns-then-room-n c = why-long c.reply-n.ensures (omega (arith, c.if-room-n.true, c.room-1.given))

pub returns : goal.returns
returns c = rw (to_z_pos w64 c.reply-n.result (omega (arith, c.reply-n.ensures.fitted.short))) (why-written c.reply-n.ensures (omega (arith, c.if-room-n.false, c.room-1.given)))
