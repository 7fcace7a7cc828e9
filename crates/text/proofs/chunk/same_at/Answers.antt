-- `text::chunk::same_at` meets its contract. Assumes nothing.
use Rattle.std.proofs.Common.{sym, arith}
use Rattle.text.specs.laws.Chunk.{agree-all, agree-more, agree-none, byte-off}
use Rattle.text.proofs.chunk.same_at.Goals as goal

pub loop-i-init : goal.loop-i-init
loop-i-init c = let x = c.args in agree-none x.text.now x.start x.w.now

pub returns-then-text-start : goal.returns-then-text-start
returns-then-text-start c = let x = c.args in byte-off x.text.now x.start x.w.now c.requires _ (omega arith) (λ e. c.if-text-start.true (sym e))

pub loop-i-preserved : goal.loop-i-preserved
loop-i-preserved c = let x = c.args in agree-more x.text.now x.start x.w.now _ c.loop-i.invariant (sym c.if-text-start.false)

pub returns : goal.returns
returns c = let x = c.args in agree-all x.text.now x.start x.w.now c.requires _ (omega arith) c.loop-i.invariant
