-- The text that is printed for a question: the lines of a reason, what is absent, the total.
use Rattle.std.specs.Prelude.{List, [], ◌∷◌, ◌++◌, ℕ, ◌-◌, length, get_or}
use Rattle.text.specs.Bytes.{bytes}
use Rattle.text.specs.Split.{lines}
use Rattle.text.specs.Text.{decimal}
use Rattle.field.specs.Names.{Names}
use Rattle.sheet.specs.Promise.{tabbed, total_text}

-- `line`, a number, the bytes of a line
unfoldable pub numbered_text : ℕ → List ℕ → List ℕ
numbered_text k l = bytes "line" ++ tabbed (decimal k) ++ tabbed l ++ (10 ∷ [])

-- the lines of the sheet with these numbers, from 1
unfoldable pub lines_text : List ℕ → List ℕ → List ℕ
lines_text sheet [] = []
lines_text sheet (k ∷ ks) = numbered_text k (get_or (lines sheet) (k - 1) []) ++ lines_text sheet ks

-- `absent`, `in`, item, concept
unfoldable pub absent_text : Names → ℕ → ℕ → List ℕ
absent_text n a d = bytes "absent" ++ tabbed (bytes "in") ++ tabbed (get_or n.items a []) ++ tabbed (get_or n.concepts d []) ++ (10 ∷ [])

-- the lines of a reason, what is absent, and how many lines there are
abbrev pub reason_text : List ℕ → List ℕ → List ℕ → List ℕ
reason_text sheet ks absent = lines_text sheet ks ++ absent ++ total_text (length ks)
