-- The line and the number by which a sheet is refused are small. Assumes nothing.
use Rattle.std.specs.Prelude.{◌≡◌, refl, Bool, true, false, cond, not, List, [], ◌∷◌, ℕ, suc, ◌+◌, ◌<◌, min, eqb, leb, ltb, length}
use Rattle.std.proofs.Common.{sym, arith, leb-true}
use Rattle.text.specs.Bytes.{every}
use Rattle.text.specs.Date.{date_shaped}
use Rattle.text.specs.Name.{is_name, line_byte}
use Rattle.text.specs.Split.{fields, split}
use Rattle.text.specs.laws.Split.{split-few}
use Rattle.store.specs.Layout.{concept_limit, role_limit}
use Rattle.rule.specs.Form.{node_limit}
use Rattle.field.specs.declared.Due.{Due}
use Rattle.field.specs.declared.Due.TheVariants as due
use Rattle.field.specs.declared.Form.{Form}
use Rattle.line.specs.declared.Marks.{Marks}
use Rattle.field.specs.Due.{fits, lineup_of, next, none}
use Rattle.line.specs.Fault.{ended, fields_fault, form_fault, full, headed, header_fault, line_fault, line_limit, room_by, sheet_limit, unknown}
use Rattle.field.specs.Names.{Names, declared, fault, field_fault, field_faults, is_count, lower_fault, name_fault, new_fault, nodes_in, plain, reserved}
use Rattle.field.specs.Words.{Field, body_of, form_of, section_of}
use Rattle.sheet.specs.Said.{Said, line_said, marks_of, nothing, outcome, outcome_from, outcome_of}
use Rattle.sheet.specs.Said.Outcome.{refused}
use Rattle.sheet.specs.laws.Pass.{not-both}

-- ---- the number of a refusal

-- one of two small numbers
fault-small : (b : Bool) (k rest : ℕ) → k < 100 → rest < 100 → fault b k rest < 100
fault-small true k rest h g = h
fault-small false k rest h g = g

-- the lower of two
lower-small : (a b : ℕ) → a < 100 → b < 100 → lower_fault a b < 100
unfolding lower_fault
lower-small a b h g = go (eqb a 0) (eqb b 0)
  where
    go : (p q : Bool) → cond p b (cond q a (min a b)) < 100
    go true q = g
    go false true = h
    go false false = omega arith

-- of a name to be declared
new-small : (room : ℕ) (names : List Field) (f : Field) → new_fault room names f < 100
unfolding new_fault
new-small room names f = fault-small (declared f names) _ _ (omega arith) (fault-small (leb room (length names)) _ _ (omega arith) (omega arith))

-- of a name that is declared
name-small : (names : List Field) (f : Field) → name_fault names f < 100
unfolding name_fault
name-small names f = fault-small (not (is_name f)) _ _ (omega arith) (fault-small (not (declared f names)) _ _ (omega arith) (omega arith))

-- of a field
field-small : (n : Names) (d : Due) (f : Field) → field_fault n d f < 100
unfolding field_fault
field-small n due.NewConcept f = fault-small (not (is_name f)) _ _ (omega arith) (fault-small (reserved f) _ _ (omega arith) (new-small concept_limit n.concepts f))
field-small n due.NewRole f = fault-small (not (is_name f)) _ _ (omega arith) (new-small role_limit n.roles f)
field-small n due.NewItem f = fault-small (not (is_name f)) _ _ (omega arith) (fault-small (date_shaped f) _ _ (omega arith) (new-small n.room n.items f))
field-small n due.Concept f = fault-small (reserved f) _ _ (omega arith) (name-small n.concepts f)
field-small n due.Role f = name-small n.roles f
field-small n due.Item f = name-small n.items f
field-small n due.RoleUse f = name-small n.roles (plain f)
field-small n due.AtLeast f = fault-small (not (is_count 1 8 f)) _ _ (omega arith) (omega arith)
field-small n due.AtMost f = fault-small (not (is_count 0 7 f)) _ _ (omega arith) (omega arith)
field-small n due.Expr f = fault-small (reserved f) _ _ (omega arith) (name-small n.concepts f)
field-small n due.Nothing f = omega arith

-- of fields
faults-small : (n : Names) (ds : List Due) (fs : List Field) → field_faults n ds fs < 100
unfolding field_faults
faults-small n ds [] = omega arith
faults-small n [] (f ∷ fs) = omega arith
faults-small n (d ∷ ds) (f ∷ fs) = lower-small _ _ (field-small n d f) (faults-small n (next d f ds) fs)

-- of the fields after the word of a line
form_small : (n : Names) (m : Marks) (f : Form) (body : List Field) → form_fault n m f body < 100
unfolding form_fault fields_fault
form_small n m f body =
    fault-small (unknown (section_of f)) _ _ (omega arith)
    (fault-small (ended m (section_of f)) _ _ (omega arith)
    (fault-small (not (fits (lineup_of f (length body)) body)) _ _ (omega arith)
    (lower-small _ _ (faults-small n (lineup_of f (length body)) body)
    (fault-small (full m (section_of f)) _ _ (omega arith)
    (fault-small (ltb node_limit (nodes_in (lineup_of f (length body)) body)) _ _ (omega arith) (omega arith))))))

-- of a line after the first
line_small : (n : Names) (m : Marks) (l : List ℕ) → line_fault n m l < 100
unfolding line_fault
line_small n m l =
    fault-small (none l) _ _ (omega arith)
    (fault-small (ltb line_limit (length l)) _ _ (omega arith)
    (fault-small (not (every line_byte l)) _ _ (omega arith) (form_small n m (form_of (fields l)) (body_of (fields l)))))

-- of line 1
header-small : (W : ℕ) (l : List ℕ) → header_fault W l < 100
unfolding header_fault
header-small W l =
    fault-small (ltb line_limit (length l)) _ _ (omega arith)
    (fault-small (not (every line_byte l)) _ _ (omega arith)
    (fault-small (not (headed W l)) _ _ (omega arith) (omega arith)))

-- ---- the line of a refusal

-- equal refusals have one line and one number
refused-same : {n k i j : ℕ} {x y : Said} → refused n k x ≡ refused i j y → (n ≡ i) × (k ≡ j)
refused-same e = (cc, cc)

-- a line is refused by its own number
from-small : (k : ℕ) (s x : Said) (ls : List (List ℕ)) {n j : ℕ} → outcome_from k s ls ≡ refused n j x → (n < k + length ls) × (j < 100)
unfolding outcome_from
from-small k s x [] e = absurd (not-both (sym e))
from-small k s x (l ∷ ls) {n} {j} e = go (eqb (line_fault s.names (marks_of s) l) 0) e (λ h. from-small (k + 1) (line_said k s l) x ls h)
  where
    go : (t : Bool) → cond t (outcome_from (k + 1) (line_said k s l) ls) (refused k (line_fault s.names (marks_of s) l) s) ≡ refused n j x
        → (outcome_from (k + 1) (line_said k s l) ls ≡ refused n j x → (n < k + 1 + length ls) × (j < 100)) → (n < k + suc (length ls)) × (j < 100)
    go true h more = let z = more h in (omega (arith, z.0), z.1)
    go false h more = let z = refused-same h in (omega (arith, z.0), omega (arith, z.1, line_small s.names (marks_of s) l))

-- so is line 1
of-small : (W : ℕ) (ls : List (List ℕ)) {n j : ℕ} {x : Said} → outcome_of W ls ≡ refused n j x → (n < 2 + length ls) × (j < 100)
of-small W [] e = let z = refused-same e in (omega (arith, z.0), omega (arith, z.1))
of-small W (l ∷ ls) {n} {j} {x} e = go (eqb (header_fault W l) 0) e
  where
    go : (t : Bool) → cond t (outcome_from 2 (nothing (room_by l)) ls) (refused 1 (header_fault W l) (nothing 0)) ≡ refused n j x → (n < 2 + suc (length ls)) × (j < 100)
    go true h = let z = from-small 2 (nothing (room_by l)) x ls h in (omega (arith, z.0), z.1)
    go false h = let z = refused-same h in (omega (arith, z.0), omega (arith, z.1, header-small W l))

-- a refusal has a line below 100,000, and a number below 100
pub refused-small : (W : ℕ) (sheet : List ℕ) {n j : ℕ} {x : Said} → outcome W sheet ≡ refused n j x → (n < 100000) × (j < 100)
unfolding outcome
refused-small W sheet {n} {j} {x} e = go (leb (length sheet) sheet_limit) refl e
  where
    go : (t : Bool) → leb (length sheet) sheet_limit ≡ t → cond t (outcome_of W (split 10 sheet)) (refused 0 9 (nothing 0)) ≡ refused n j x → (n < 100000) × (j < 100)
    go true q h = let z = of-small W (split 10 sheet) h in (omega (arith, z.0, split-few 10 sheet, leb-true (length sheet) sheet_limit q), z.1)
    go false q h = let z = refused-same h in (omega (arith, z.0), omega (arith, z.1))
