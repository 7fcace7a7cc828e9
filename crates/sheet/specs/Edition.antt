-- Which store a sheet needs, by its edition.
use Rattle.std.specs.Prelude.{Bool, false, List, [], ◌∷◌, ℕ}
use Rattle.line.specs.Fault.{is_second}

-- line 1 of these lines is the header of edition 2
abbrev pub second_in : List (List ℕ) → Bool
second_in [] = false
second_in (l ∷ ls) = is_second l
