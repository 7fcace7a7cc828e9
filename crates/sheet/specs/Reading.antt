-- What reading a sheet gives, as the definitions have it.
use Rattle.std.specs.Prelude.{ℕ, Result, Ok, Err}
use Rattle.store.specs.declared.Counts.{Counts}
use Rattle.sheet.specs.declared.Accepted.{Accepted}
use Rattle.sheet.specs.declared.Refused.{Refused}

-- what reading a sheet gives
abbrev pub Reading : Type 0
Reading = Result Accepted Refused

-- accepted: how many names are declared, how many rules there are, and how many findings they have in all
abbrev pub accepted_as : Counts → ℕ → ℕ → Reading
accepted_as c n m = Ok (record { counts = c; rules = n; findings = m })

-- refused: the line and the number of refusal; line 0 is the whole sheet
abbrev pub refusal_as : ℕ → ℕ → Refused
refusal_as n k = record { line = n; why = k }

-- the same as what reading gives
abbrev pub refused_as : ℕ → ℕ → Reading
refused_as n k = Err (refusal_as n k)
