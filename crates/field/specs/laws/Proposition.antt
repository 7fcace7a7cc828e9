-- That a table is tidy is one fact: it has one proof at most. Assumes nothing.
use Rattle.std.specs.Prelude.{List, ℕ}
use Rattle.std.proofs.Props.{props}
use Rattle.logic.specs.laws.Number.{distinct-prop}
use Rattle.field.specs.own.Table.{Table, Tidy}

-- a table is tidy in one way
pub tidy-prop : (sheet : List ℕ) (t : Table) → IsProp (Tidy sheet t)
tidy-prop sheet t = hlevel (props, distinct-prop)
