-- `store::size::long` meets its contract. Assumes nothing.
use Rattle.std.proofs.Common.{◌∙◌, ap, sym}
use Rattle.logic.specs.laws.Decides.{decides_eqb}
use Rattle.store.specs.Layout.{size}
use Rattle.store.specs.laws.Width.{width-large, width_small}
use Rattle.store.proofs.size.long.Goals as goal

pub returns-then-words-eq-LARGE_WORDS : goal.returns-then-words-eq-LARGE_WORDS
returns-then-words-eq-LARGE_WORDS c = let w = ap size (width-large _ c.if-words-eq-LARGE_WORDS.true) in decides_eqb _ _ (λ e. e ∙ sym w) (λ e. e ∙ w)

pub returns-else-words-eq-LARGE_WORDS : goal.returns-else-words-eq-LARGE_WORDS
returns-else-words-eq-LARGE_WORDS c = let w = ap size (width_small _ c.if-words-eq-LARGE_WORDS.false) in decides_eqb _ _ (λ e. e ∙ sym w) (λ e. e ∙ w)
