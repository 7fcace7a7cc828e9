-- What asking why a cell is true gives, as the definitions have it.
use Rattle.std.specs.Prelude.{ℕ, Result}
use Rattle.sheet.specs.declared.Refused.{Refused}

-- how many lines the reason has in all, or why there is none
abbrev pub Explained : Type 0
Explained = Result ℕ Refused
