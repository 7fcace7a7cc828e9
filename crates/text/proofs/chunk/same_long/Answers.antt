-- `text::chunk::same_long` meets its contract. Assumes nothing.
use Rattle.std.proofs.Common.{◌-◌, length, sym, ◌∙◌, arith}
use Rattle.text.specs.laws.Chunk.{agree-all, agree_less, agree-none, chunk-off, chunk-on}
use Rattle.text.proofs.chunk.same_long.Goals as goal

pub returns-then-eight : goal.returns-then-eight
returns-then-eight c = let x = c.args in
    let q = c.requires in
    chunk-off x.text.now x.start x.w.now q.0 _ 8 (omega arith) (λ e. c.if-eight.true (c.eight.ensures ∙ e ∙ sym c.eight-2.ensures))

pub loop-i-init : goal.loop-i-init
loop-i-init c = let x = c.args in (omega arith, agree-none x.text.now x.start x.w.now)

pub returns-then-eight-2 : goal.returns-then-eight-2
returns-then-eight-2 c = let x = c.args in
    let q = c.requires in
    chunk-off x.text.now x.start x.w.now q.0 _ 8 (omega arith) (λ e. c.if-eight-2.true (c.eight-in-loop-i.ensures ∙ e ∙ sym c.eight-in-loop-i-2.ensures))

pub loop-i-preserved : goal.loop-i-preserved
loop-i-preserved c = let x = c.args in
    let q = c.requires in
    (omega arith, chunk-on x.text.now x.start x.w.now q.0 _ 8 (omega arith) (λ i. (c.type_inv.text i).fits) (λ i. (c.type_inv.w i).fits) (sym c.eight-in-loop-i.ensures ∙ c.if-eight-2.false ∙ c.eight-in-loop-i-2.ensures) c.loop-i.invariant.1)

pub returns : goal.returns
returns c = let x = c.args in
    let q = c.requires in
    let less = agree_less x.text.now x.start x.w.now _ (length x.w.now - 8) (omega arith) c.loop-i.invariant.1 in
    let all = chunk-on x.text.now x.start x.w.now q.0 (length x.w.now - 8) 8 (omega arith) (λ i. (c.type_inv.text i).fits) (λ i. (c.type_inv.w i).fits) (sym c.eight.ensures ∙ c.if-eight.false ∙ c.eight-2.ensures) less in
    agree-all x.text.now x.start x.w.now q.0 _ (omega arith) all
