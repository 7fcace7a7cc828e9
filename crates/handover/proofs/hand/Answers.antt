-- `handover::hand` meets its contract. Assumes nothing.
use Rattle.std.proofs.Common.{arith, w64}
use Rattle.std.proofs.Math.Facts.{to_z_pos}
use Rattle.handover.specs.laws.Room.{hand-long, hand-written}
use Rattle.handover.proofs.hand.Goals as goal

pub returns-then-room-n : goal.returns-then-room-n
returns-then-room-n c = hand-long c.args.own.now c.args.room.now c.args.n c.requires.1 c.if-room-n.true

pub returns : goal.returns
returns c = rw (to_z_pos w64 {n = c.args.n} (omega (arith, c.requires.0))) (hand-written c.args.own.now c.args.room.now c.args.n c.requires.1 (omega arith) c.put_all.ensures)
