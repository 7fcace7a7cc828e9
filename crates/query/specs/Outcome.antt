-- What compiling a rule gives, as the definitions have it.
use Rattle.std.specs.Prelude.{ℕ, Result, Ok}
use Rattle.query.specs.declared.Compiled.{Compiled}
use Rattle.query.specs.declared.QueryRefusal.{QueryRefusal}

-- the number of items of the query and of its answer variables, or why there is none
abbrev pub Outcome : Type 0
Outcome = Result Compiled QueryRefusal

-- a query of so many items, with so many answer variables
abbrev pub compiled_as : ℕ → ℕ → Outcome
compiled_as n k = Ok (record { items = n; answers = k })
