-- What the definitions say of some sheets on which one has to think, each computed: the line and the number by which a sheet is refused. Assumes nothing.
use Rattle.std.specs.Prelude.{◌≡◌, refl, [], ◌∷◌, ◌++◌, map, ℕ, ◌+◌, ◌*◌, length}
use Prim.Native.String.{String}
use Rattle.text.specs.Bytes.{bytes, every, lower, place, same}
use Rattle.text.specs.Date.{dated, date_shaped, days_in, digit, two_digits}
use Rattle.text.specs.Name.{is_name, line_byte, name_byte}
use Rattle.text.specs.Split.{split}
use Rattle.field.specs.Due.{fits}
use Rattle.store.specs.Layout.{small}
use Rattle.line.specs.Fault.{fields_fault, form_fault, header_fault, line_fault, room_by}
use Rattle.field.specs.Names.{field_fault, field_faults, lower_fault, name_fault, new_fault, nodes_in}
use Rattle.saying.specs.Read.{nodes_at, read, size}
use Rattle.sheet.specs.Said.{Outcome, line_said, outcome, outcome_from}
use Rattle.sheet.specs.Said.Outcome.{accepted, refused}
use Rattle.field.specs.Words.{line_form, operator_of, rule_form}

-- 100 times the line and the number; of an accepted sheet the statements and rules
abbrev ends : Outcome → ℕ
ends (refused n k x) = n * 100 + k
ends (accepted x) = length x.statements + length x.rules

-- a sheet of declarations, and more lines from line 6 on
abbrev after : String → ℕ
after s = ends (outcome small (bytes "sheet\t1\nconcept\tA\nrole\tr\nitem\ta\nitem\tb\n" ++ bytes s))

pub readings : map after (
    -- whichever field it is in, the lowest
    "in\tzz\t!" ∷ "in\t!\tzz" ∷ "rule\tsub\tatleast\tx\tr\tzz\tA"
    -- words
    ∷ "sheet\t1" ∷ "rule" ∷ "rule\t" ∷ "\t" ∷ "\n\n\nAND\n"
    -- sections
    ∷ "same\ta\tb\nconcept" ∷ "rule\tref\tr\nin\tzz\tA"
    -- fields too few and too many
    ∷ "concept\ta b\tx" ∷ "rule\tsub\tA\t~not\tA" ∷ "rule\tchain\tr\tr" ∷ "rule\tchain\tr\tr\tr\t"
    -- names and dates
    ∷ "concept\tand" ∷ "in\ta\tand" ∷ "rule\tsub\tA\t~A" ∷ "rel\t~q\ta\tb" ∷ "item\t3-Mar" ∷ "item\ta" ∷ "item\t29-Feb" ∷ "item\t30-FEB"
    -- counts and nodes
    ∷ "rule\tsub\tatmost\t8\tr\tA\tA" ∷ "rule\tsub\tor\tA\tor\tA\tor\tA\tor\tA\tor\tA\tor\tA\tA\tnot\tA"
    -- accepted
    ∷ "runder\t~r\tr\nrule\tsub\tsome\t~r\tself\tr\tatmost\t0\tr\tone\ta\n" ∷ []
    )
    ≡ (615 ∷ 615 ∷ 619 ∷ 612 ∷ 614 ∷ 612 ∷ 612 ∷ 912 ∷ 713 ∷ 713 ∷ 614 ∷ 614 ∷ 614 ∷ 615 ∷ 615 ∷ 615 ∷ 615 ∷ 615 ∷ 616 ∷ 617 ∷ 616 ∷ 0 ∷ 620 ∷ 621 ∷ 2 ∷ [])
unfolding lower same place every split date_shaped dated days_in digit two_digits is_name name_byte line_byte operator_of line_form rule_form fits new_fault name_fault field_fault lower_fault field_faults nodes_in read size nodes_at
    fields_fault form_fault line_fault line_said outcome_from header_fault room_by outcome
readings = refl
