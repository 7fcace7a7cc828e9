-- Theorem A: a cell follows from the statements exactly if it holds in every model of them. Assumes nothing.
use Rattle.std.specs.Prelude.{◌↔◌}
use Rattle.store.specs.declared.Counts.{Counts}
use Rattle.store.specs.Cell.{Cell, Follows}
use Rattle.paper.specs.Interpretation.{Entails}
use Rattle.paper.specs.laws.Sound.{follows-satisfied}
use Rattle.paper.specs.laws.Canonical.{Settled, canonical, canonical-exact, canonical-model}

pub theorem-a : {n : Counts} {G C : Cell → Type 0} → Settled n G C → (c : Cell) → Follows n G c ↔ Entails n G c
theorem-a k c = (λ f. record { everywhere = λ I m. follows-satisfied m f }, λ e. k.sound c ((canonical-exact k c).1 (e.everywhere (canonical k) (canonical-model k))))
