-- The second item of a finding.
use Rattle.std.specs.Prelude.{Option}
use Rattle.store.specs.declared.Item.{Item}

-- the second item of a finding, or none
abbrev pub Second : Type 0
Second = Option Item
