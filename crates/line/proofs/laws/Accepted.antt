-- What a line without a fault is known to have. Assumes nothing.
use Rattle.std.specs.Prelude.{◌≡◌, refl, false, not, List, [], ◌∷◌, ℕ, ◌≤◌, ltb, length}
use Rattle.std.proofs.Common.{arith, ltb-false}
use Rattle.std.proofs.lemmas.Bool.{not-false}
use Rattle.text.specs.Bytes.{every}
use Rattle.text.specs.Name.{line_byte}
use Rattle.text.specs.Split.{fields}
use Rattle.rule.specs.Form.{node_limit}
use Rattle.field.specs.declared.Form.{Form}
use Rattle.line.specs.declared.Marks.{Marks}
use Rattle.field.specs.Due.{fits, lineup_of, none}
use Rattle.line.specs.Fault.{ended, fields_fault, form_fault, full, line_fault, line_limit, unknown}
use Rattle.field.specs.Names.{Names, fault, field_faults, lower_fault, nodes_in}
use Rattle.field.specs.Words.{Field, body_of, form_of, section_of}
use Rattle.field.specs.laws.Right.{Right, fault-none, lower-zeros}

-- the fields of an accepted line
pub record Accepted (n : Names) (m : Marks) (f : Form) (body : List Field) : Type 0 where
  pub known : unknown (section_of f) ≡ false
  pub started : ended m (section_of f) ≡ false
  pub right : Right n (lineup_of f (length body)) body
  pub room : full m (section_of f) ≡ false
  pub nodes : nodes_in (lineup_of f (length body)) body ≤ node_limit

pub form-accepted : (n : Names) (m : Marks) (f : Form) (body : List Field) → form_fault n m f body ≡ 0 → Accepted n m f body
unfolding form_fault fields_fault
form-accepted n m f body e =
    let a = fault-none (unknown (section_of f)) 11 (fault (ended m (section_of f)) 13 (fields_fault n m f body)) e in
    let b = fault-none (ended m (section_of f)) 12 (fields_fault n m f body) a.1 in
    let rest = fault (full m (section_of f)) 18 (fault (ltb node_limit (nodes_in (lineup_of f (length body)) body)) 21 0) in
    let d = fault-none (not (fits (lineup_of f (length body)) body)) 13 (lower_fault (field_faults n (lineup_of f (length body)) body) rest) b.1 in
    let g = lower-zeros (field_faults n (lineup_of f (length body)) body) rest d.1 in
    let h = fault-none (full m (section_of f)) 17 (fault (ltb node_limit (nodes_in (lineup_of f (length body)) body)) 21 0) g.1 in
    let i = fault-none (ltb node_limit (nodes_in (lineup_of f (length body)) body)) 20 0 h.1 in
    record { known = a.0; started = b.0; right = record { fit = not-false _ d.0; faults = g.0 }; room = h.0; nodes = ltb-false _ _ i.0 }

pub line-accepted : (n : Names) (m : Marks) (l : List ℕ) → none l ≡ false → line_fault n m l ≡ 0 → (length l ≤ line_limit) × Accepted n m (form_of (fields l)) (body_of (fields l))
unfolding line_fault
line-accepted n m l z e =
    let q : fault (ltb line_limit (length l)) 10 (fault (not (every line_byte l)) 10 (form_fault n m (form_of (fields l)) (body_of (fields l)))) ≡ 0 = rw z at e in
    let a = fault-none (ltb line_limit (length l)) 9 (fault (not (every line_byte l)) 10 (form_fault n m (form_of (fields l)) (body_of (fields l)))) q in
    let b = fault-none (not (every line_byte l)) 9 (form_fault n m (form_of (fields l)) (body_of (fields l))) a.1 in
    (ltb-false _ _ a.0, form-accepted n m (form_of (fields l)) (body_of (fields l)) b.1)

-- it is not too long
pub right-short : (n : Names) (m : Marks) (l : List ℕ) → line_fault n m l ≡ 0 → length l ≤ line_limit
right-short n m [] e = omega arith
right-short n m (b ∷ l) e = (line-accepted n m (b ∷ l) refl e).0
