-- What may stand in a line and in a name.
use Rattle.std.specs.Prelude.{Bool, true, false, cond, List, ℕ, eqb, length}
use Rattle.text.specs.Bytes.{between, every}

-- a byte 33 to 126, space or tab
unfoldable pub line_byte : ℕ → Bool
line_byte b = cond (between 32 b 126) true (eqb b 9)

-- one of A-Z a-z 0-9 . _ / -
unfoldable pub name_byte : ℕ → Bool
name_byte b = cond (between 65 b 90) true (cond (between 97 b 122) true (cond (between 45 b 57) true (eqb b 95)))

-- the most bytes of a name
abbrev pub name_limit : ℕ
name_limit = 24

-- a name: 1 to 24 such bytes
unfoldable pub is_name : List ℕ → Bool
is_name s = cond (between 1 (length s) name_limit) (every name_byte s) false
