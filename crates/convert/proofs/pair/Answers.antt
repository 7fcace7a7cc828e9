-- `convert::pair` meets its contract: a target of a store's length has the other length exactly if it has the other width. Assumes nothing.
use Rattle.std.proofs.Common.{ap, sym, ◌∙◌}
use Rattle.logic.specs.laws.Decides.{decides_eqb, decides-no}
use Rattle.store.specs.Layout.{size}
use Rattle.convert.specs.Promise.{other_width}
use Rattle.convert.specs.laws.Width.{other_width-long}
use Rattle.convert.proofs.pair.Goals as goal
use Rattle.convert.proofs.pair.Goals.{then-sized, else-sized}

pub returns-then-long : goal.returns-then-long
returns-then-long c = elim c.if-sized.branch [
  | then-sized w ↦
      (let wide = c.width.ensures in
      let o = c.other.ensures ∙ ap other_width c.width-then-long.ensures in
      let long = w.long.ensures.holds (sym w.value-is ∙ c.if-long.true) in
      let fit = c.sized.ensures.holds w.if-sized.true in
      decides_eqb _ _ (λ e. record { source = fit; target = long ∙ ap size (sym wide ∙ e ∙ o) }) (λ x. wide ∙ other_width-long _ _ x.target ∙ sym o))
  | else-sized w ↦ absurd (cc)
]

pub returns-else-long : goal.returns-else-long
returns-else-long c = elim c.if-sized.branch [
  | then-sized w ↦ rw c.if-long.false (decides-no (λ x. w.long.ensures.fails (sym w.value-is ∙ c.if-long.false) (x.target ∙ ap size (sym (other_width-long _ _ x.target)))))
  | else-sized w ↦ rw c.if-long.false (decides-no (λ x. c.sized.ensures.fails w.if-sized.false x.source))
]
