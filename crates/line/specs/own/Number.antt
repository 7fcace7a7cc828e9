-- The numbers of the faults.
use Rattle.std.specs.Prelude.{ℕ, Result, Ok, Err}
use Rattle.line.specs.declared.Fault.{Fault}
use Rattle.line.specs.declared.Fault.TheVariants as fault

-- the number of refusal
abbrev pub number_of : Fault → ℕ
number_of fault.Bytes = 10
number_of fault.Header = 11
number_of fault.Word = 12
number_of fault.Ended = 13
number_of fault.Fields = 14
number_of fault.Name = 15
number_of fault.Date = 16
number_of fault.Again = 17
number_of fault.Room = 18
number_of fault.Undeclared = 19
number_of fault.Count = 20
number_of fault.Nodes = 21

-- the number of what was found; 0 is nothing
abbrev pub found : Result (Unit {0}) Fault → ℕ
found (Ok u) = 0
found (Err f) = number_of f
