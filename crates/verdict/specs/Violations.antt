-- The violations of a sheet's rules over its statements, in the published reading.
use Rattle.std.specs.Prelude.{◌≡◌, ◌↔◌, ◌⊎◌, List, [], ◌∷◌, ℕ, ◌<◌}
use Rattle.logic.specs.Number.{One}
use Rattle.rule.specs.declared.Finding.{Finding}
use Rattle.rule.specs.declared.Rule.{Rule}
use Rattle.rule.specs.Second.{Second}
use Rattle.rule.specs.Findings.{Before}
use Rattle.field.specs.Names.{counts_of}
use Rattle.sheet.specs.Said.{RuleAt, Said, StatedIn}
use Rattle.paper.specs.Interpretation.{Interpretation, Minimal}
use Rattle.paper.specs.Satisfied.{ValueBreaks}

-- an interpretation is a model with minimal equality of the statements of a sheet
abbrev pub MinimalModel : Said → Interpretation → Type 1
MinimalModel x = Minimal (counts_of x.names) (StatedIn x)

-- the item a alone, or the pair of a and b, violates the rule with the number k, from 0, of the sheet: its value breaks the condition of the rule in every model with minimal equality
pub record Violates (x : Said) (k a : ℕ) (b : Second) : Type 1 where
  pub rule : Rule
  pub there : RuleAt x k rule
  pub breaks : (I : Interpretation) → MinimalModel x I → ValueBreaks (counts_of x.names) (MinimalModel x) I rule.nodes rule.head a b

-- the order of a sheet's violations: by rule, then item, then second item
abbrev pub Earlier : Finding → Finding → Type 0
Earlier f g = (f.rule < g.rule) ⊎ ((f.rule ≡ g.rule) × Before f g)

-- each of the list comes before those after it, and so is there once: `InOrder` of crate rule, with this order
pub data InTurn : List Finding → Type 0 where
  none : InTurn []
  more : {f : Finding} {fs : List Finding} → ((g : Finding) → One g fs → Earlier f g) → InTurn fs → InTurn (f ∷ fs)

-- the list has exactly the violations of the sheet's rules over its statements, each once, in order
pub record Violations (x : Said) (fs : List Finding) : Type 1 where
  pub exactly : (f : Finding) → One f fs ↔ Violates x f.rule f.item.0 f.second
  pub ordered : InTurn fs
