-- The field at a place of a line, and the place past it.
use Rattle.std.specs.Prelude.{Option, Some, None, ℕ, ◌+◌, ◌-◌, cond, List, [], length, nat_le}
use Rattle.text.specs.own.Split.{part_of, end_of}

-- the field at a place of a line, from its start to its end
unfoldable pub field_at : List ℕ → ℕ → Option (ℕ × ℕ)
field_at line at = cond (nat_le at (length line)) (Some (at, end_of 9 line at)) None

-- its bytes
unfoldable pub field_from : List ℕ → ℕ → List ℕ
field_from line at = cond (nat_le at (length line)) (part_of line at (end_of 9 line at - at)) []

-- the place past it
unfoldable pub past_field : List ℕ → ℕ → ℕ
past_field line at = cond (nat_le at (length line)) (end_of 9 line at + 1) at
