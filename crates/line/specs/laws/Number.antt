-- Laws of the numbers of refusal. Assumes nothing.
use Rattle.std.specs.Prelude.{◌≡◌, refl, true, false, Result, Ok, Err, is_err, ◌≤◌}
use Rattle.std.proofs.Common.{arith}
use Rattle.line.specs.declared.Fault.{Fault}
use Rattle.line.specs.declared.Fault.TheVariants as fault
use Rattle.line.specs.own.Number.{found, number_of}

-- no fault has the number 0
pub number_some : (f : Fault) → 10 ≤ number_of f
number_some fault.Bytes = omega arith
number_some fault.Header = omega arith
number_some fault.Word = omega arith
number_some fault.Ended = omega arith
number_some fault.Fields = omega arith
number_some fault.Name = omega arith
number_some fault.Date = omega arith
number_some fault.Again = omega arith
number_some fault.Room = omega arith
number_some fault.Undeclared = omega arith
number_some fault.Count = omega arith
number_some fault.Nodes = omega arith

-- no fault was found
pub found-none : (r : Result (Unit {0}) Fault) → is_err r ≡ false → found r ≡ 0
found-none (Ok u) e = refl
found-none (Err f) e = absurd (cc)

-- a fault was found
pub found-some : (r : Result (Unit {0}) Fault) → is_err r ≡ true → found r ≡ 0 → ⊥
found-some (Ok u) e z = cc
found-some (Err f) e z = omega (arith, number_some f, z)
