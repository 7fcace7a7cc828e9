-- What asking why an item is a finding gives, as the definitions have it.
use Rattle.std.specs.Prelude.{ℕ, Result, Ok}
use Rattle.store.specs.declared.Concept.{Concept}
use Rattle.sheet.specs.declared.Refused.{Refused}
use Rattle.finding.specs.declared.Explained.{Explained}

-- how many lines the reason has in all and the concept in which the item is not, or why there is none
abbrev pub FindingExplained : Type 0
FindingExplained = Result Explained Refused

-- the answer with so many lines, and the concept in which the item is not
abbrev pub explained_by : ℕ → Concept → FindingExplained
explained_by m c = Ok (record { lines = m; absent = c })
