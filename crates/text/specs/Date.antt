-- Date-shaped: one or two digits, a hyphen, a month's first three English letters in either case, nothing else; and the day exists in that month, 29 in February.
use Rattle.std.specs.Prelude.{Bool, false, cond, List, [], ◌∷◌, ℕ, ◌+◌, ◌-◌, ◌*◌, leb, eqb, length, get_or}
use Rattle.text.specs.Bytes.{between, lower, place}
use Rattle.text.specs.Split.{words}

-- the value of a digit, or 255
unfoldable pub digit : ℕ → ℕ
digit b = cond (between 48 b 57) (b - 48) 255

-- the value of two digits, or 255
unfoldable pub two_digits : ℕ → ℕ → ℕ
two_digits a b = cond (leb (digit a) 9) (cond (leb (digit b) 9) (digit a * 10 + digit b) 255) 255

-- the first letters of the months
abbrev pub months : List (List ℕ)
months = words "jan feb mar apr may jun jul aug sep oct nov dec"

-- the place of the month with these letters, in either case; 12 where there is none
abbrev pub month : ℕ → ℕ → ℕ → ℕ
month a b c = place (lower a ∷ lower b ∷ lower c ∷ []) months

-- the days of the months, 29 in February
abbrev pub days : List ℕ
days = 31 ∷ 29 ∷ 31 ∷ 30 ∷ 31 ∷ 30 ∷ 31 ∷ 31 ∷ 30 ∷ 31 ∷ 30 ∷ 31 ∷ []

-- the days of the month at a place; 0 where there is no month
unfoldable pub days_in : ℕ → ℕ
days_in m = get_or days m 0

-- a day's value that exists in the month at a place, and a hyphen
unfoldable pub dated : ℕ → ℕ → ℕ → Bool
dated day hyphen m = cond (eqb hyphen 45) (between 1 day (days_in m)) false

-- the bytes are date-shaped
unfoldable pub date_shaped : List ℕ → Bool
date_shaped s =
    cond (eqb (length s) 5) (dated (digit (get_or s 0 0)) (get_or s 1 0) (month (get_or s 2 0) (get_or s 3 0) (get_or s 4 0)))
    (cond (eqb (length s) 6) (dated (two_digits (get_or s 0 0) (get_or s 1 0)) (get_or s 2 0) (month (get_or s 3 0) (get_or s 4 0) (get_or s 5 0)))
    false)
