-- `batch::turns` meets its contract. The loop's invariant is the contract up to statement `i`. Assumes nothing.
use Rattle.std.proofs.Common.{ap, sym, ◌∙◌, arith, w64}
use Rattle.std.proofs.lemmas.Int.{to_z-of_z}
use Rattle.store.specs.own.Laid.{layout_of}
use Rattle.batch.specs.laws.Turn.{answered-more, answered-none, turn_at}
use Rattle.batch.proofs.turns.Goals as goal

pub loop-i-init : goal.loop-i-init
loop-i-init c = answered-none _ _ c.requires.1

pub turn-requires : goal.turn-requires
turn-requires c = (c.requires.0 ∙ ap layout_of (sym c.loop-i.invariant.wide), rw c.loop-i.invariant.wide c.loop-i.invariant.closed)

pub loop-i-preserved : goal.loop-i-preserved
loop-i-preserved c = answered-more c.loop-i.invariant (omega (arith, c.loop-i.invariant.long)) (turn_at c.statement-s.ensures (sym (to_z-of_z w64 c.turn.result (record { sfits = omega (arith, c.turn.type_inv) }))) c.turn.ensures) (λ i. (c.type_inv.words i).fits)
