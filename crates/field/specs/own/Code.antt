-- Words by their numbers.
use Rattle.std.specs.Prelude.{Option}
use Rattle.std.specs.Option.{is_some}
use Rattle.std.specs.Prelude.{Bool, cond, List, [], ◌∷◌, ℕ, ◌+◌, ◌*◌, leb, length}
use Rattle.field.specs.declared.Operator.{Operator}

-- the number that bytes make: the first is lowest, and a 1 stands above the last
unfoldable pub number : List ℕ → ℕ
number [] = 1
number (b ∷ s) = b + 256 * number s

-- the number of up to seven bytes; 0 for more
unfoldable pub code_of : List ℕ → ℕ
code_of f = cond (leb (length f) 7) (number f) 0

-- one of the words of expressions
abbrev pub is_word : Option Operator → Bool
is_word o = is_some o
