-- `text::chunk::same_middle` meets its contract. Assumes nothing.
use Rattle.std.proofs.Common.{◌≡◌, ◌-◌, eqb, length, sym, ◌∙◌, arith, eq-eqb, ne_eqb}
use Rattle.std.proofs.Math.Decide.{ℕ_discrete}
use Rattle.text.specs.Bytes.{same}
use Rattle.text.specs.own.Split.{part_of}
use Rattle.text.specs.laws.Chunk.{agree-all, agree_less, agree-none, at_zero, chunk-off, chunk-on}
use Rattle.text.proofs.chunk.same_middle.Goals as goal

pub returns-then-four : goal.returns-then-four
returns-then-four c = go (ℕ_discrete c.four-then-four.result c.four-then-four-2.result)
  where
    go : Dec (c.four-then-four.result ≡ c.four-then-four-2.result) → eqb c.four-then-four.result c.four-then-four-2.result ≡ same c.args.w.now (part_of c.args.text.now c.args.start (length c.args.w.now))
    go (yes e) =
        let x = c.args in
        let q = c.requires in
        let none = agree-none x.text.now x.start x.w.now in
        let one = chunk-on x.text.now x.start x.w.now q.0 0 4 (omega arith) (λ i. (c.type_inv.text i).fits) (λ i. (c.type_inv.w i).fits) (sym (at_zero x.text.now x.start 4) ∙ sym c.four-then-four.ensures.0 ∙ e ∙ c.four-then-four-2.ensures.0) none in
        let less = agree_less x.text.now x.start x.w.now 4 (length x.w.now - 4) (omega arith) one in
        let two = chunk-on x.text.now x.start x.w.now q.0 (length x.w.now - 4) 4 (omega arith) (λ i. (c.type_inv.text i).fits) (λ i. (c.type_inv.w i).fits) (sym c.four.ensures.0 ∙ c.if-four.true ∙ c.four-2.ensures.0) less in
        rw (eq-eqb _ _ e) (agree-all x.text.now x.start x.w.now q.0 _ (omega arith) two)
    go (no n) =
        let x = c.args in
        rw (ne_eqb _ _ n) (chunk-off x.text.now x.start x.w.now c.requires.0 0 4 (omega arith) (λ e. n (c.four-then-four.ensures.0 ∙ at_zero x.text.now x.start 4 ∙ e ∙ sym c.four-then-four-2.ensures.0)))

pub returns-else-four : goal.returns-else-four
returns-else-four c = let x = c.args in
    rw (ne_eqb _ _ c.if-four.false) (chunk-off x.text.now x.start x.w.now c.requires.0 _ 4 (omega arith) (λ e. c.if-four.false (c.four.ensures.0 ∙ e ∙ sym c.four-2.ensures.0)))
