-- Laws of fields by their place. Assumes nothing.
use Rattle.std.specs.Prelude.{Option, Some, None, ◌≡◌, ℕ, ◌+◌, ◌-◌, ◌<◌, ◌≤◌, List, [], ◌∷◌, length}
use Rattle.std.proofs.Common.{sym, ap, ◌∙◌, arith, le-leb}
use Rattle.std.proofs.lemmas.Bool.{lt-leb}
use Rattle.text.specs.own.Split.{part_of, parts_from, end_of}
use Rattle.text.specs.laws.Split.{parts_next, parts_none}
use Rattle.text.specs.laws.Choice.{le-cases}
use Rattle.reader.specs.own.Field.{field_at, field_from, past_field}

module _ (line : List ℕ) (at : ℕ) where
  pub fields-next : at ≤ length line → parts_from 9 line at ≡ field_from line at ∷ parts_from 9 line (past_field line at)
  unfolding field_from past_field
  fields-next h = parts_next 9 line at h ∙ rw (le-leb _ _ h)

  pub fields-none : length line < at → parts_from 9 line at ≡ []
  fields-none h = parts_none 9 line at h

-- the two numbers of a pair that is there
abbrev start_in : Option (ℕ × ℕ) → ℕ
start_in None = 0
start_in (Some p) = p.0

abbrev end_in : Option (ℕ × ℕ) → ℕ
end_in None = 0
end_in (Some p) = p.1

-- what a reader told
pub field_told : (line : List ℕ) (at a e : ℕ) → field_at line at ≡ Some (a, e) → (a ≡ at) × (e ≡ end_of 9 line at) × (at ≤ length line)
unfolding field_at
field_told line at a e q =
    le-cases at (length line)
    (λ h. let z : Some (at, end_of 9 line at) ≡ Some (a, e) = rw (le-leb _ _ h) at q in (ap start_in (sym z), ap end_in (sym z), h))
    (λ h. let z : None ≡ Some (a, e) = rw (lt-leb _ _ h) at q in let n : ◌≡◌ {A = ℕ} 0 1 = cc in absurd (omega arith))

pub field-ended : (line : List ℕ) (at : ℕ) → field_at line at ≡ None → length line < at
unfolding field_at
field-ended line at q =
    le-cases at (length line)
    (λ h. let z : Some (at, end_of 9 line at) ≡ None = rw (le-leb _ _ h) at q in let n : ◌≡◌ {A = ℕ} 0 1 = cc in absurd (omega arith))
    (λ h. h)

-- the field and the place past it, where there is one and where there is none
module _ (line : List ℕ) (at : ℕ) where
  pub field-here : at ≤ length line → field_from line at ≡ part_of line at (end_of 9 line at - at)
  unfolding field_from
  field-here h = rw (le-leb _ _ h)

  pub field-none : length line < at → field_from line at ≡ []
  unfolding field_from
  field-none h = rw (lt-leb _ _ h)

  pub past-here : at ≤ length line → past_field line at ≡ end_of 9 line at + 1
  unfolding past_field
  past-here h = rw (le-leb _ _ h)

  pub past-none : length line < at → past_field line at ≡ at
  unfolding past_field
  past-none h = rw (lt-leb _ _ h)
