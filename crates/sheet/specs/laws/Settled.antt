-- Once a statement or a rule was accepted, the declared names stay as they are. Assumes nothing.
use Rattle.std.specs.Prelude.{◌≡◌, refl, Bool, true, false, cond, not, ◌||◌, List, [], ◌∷◌, ◌++◌, ℕ, ◌+◌, eqb, length}
use Rattle.std.proofs.Common.{sym, ◌∙◌, ap, true≢false, arith, eqb-true, lt-ltb, length-append}
use Rattle.text.specs.Split.{fields}
use Rattle.field.specs.declared.Form.{Form}
use Rattle.field.specs.declared.Form.TheVariants as form
use Rattle.field.specs.declared.RuleWord.{RuleWord}
use Rattle.field.specs.Due.{none}
use Rattle.line.specs.Fault.{begun, ended, line_fault}
use Rattle.sheet.specs.Said.{Outcome, Said, line_said, marks_of, outcome_from, saying}
use Rattle.sheet.specs.Said.Outcome.{accepted, refused}
use Rattle.field.specs.Words.{Field, body_of, form_of, section_of}
use Rattle.line.proofs.laws.Accepted.{line-accepted}

-- a list with a last entry is not none
pub none_last : {A : Type 0} (xs : List A) (y : A) → none (xs ++ y ∷ []) ≡ false
none_last [] y = refl
none_last (x ∷ xs) y = refl

or-true : (a : Bool) → (a || true) ≡ true
or-true true = refl
or-true false = refl

-- once a rule was accepted, the sheet has begun
pub rule-begun : (k : ℕ) (x : Said) (w : RuleWord) (fs : List Field) → begun (marks_of (saying k x (form.Rule w) fs)) ≡ true
rule-begun k x w fs = rw (length-append, lt-ltb 0 (length x.rules + 1) (omega arith)) (or-true (not (none x.statements)))

-- a line of a section that has not ended leaves the names, and what has begun has begun
module _ (k : ℕ) (x : Said) (fs : List Field) (b : begun (marks_of x) ≡ true) where
  pub saying-settled : (f : Form) → ended (marks_of x) (section_of f) ≡ false → ((saying k x f fs).names ≡ x.names) × (begun (marks_of (saying k x f fs)) ≡ true)
  saying-settled form.Concept e = absurd (true≢false (sym b ∙ e))
  saying-settled form.Role e = absurd (true≢false (sym b ∙ e))
  saying-settled form.Item e = absurd (true≢false (sym b ∙ e))
  saying-settled (form.Statement w) e = (refl, rw none_last)
  saying-settled (form.Rule w) e = (refl, rule-begun k x w fs)
  saying-settled form.Bare e = (refl, b)
  saying-settled form.Unknown e = (refl, b)

pub line-settled : (k : ℕ) (x : Said) (l : List ℕ) → begun (marks_of x) ≡ true → line_fault x.names (marks_of x) l ≡ 0 → ((line_said k x l).names ≡ x.names) × (begun (marks_of (line_said k x l)) ≡ true)
unfolding line_said
line-settled k x l b e = go (none l) refl
  where
    go : (t : Bool) → none l ≡ t → ((cond t x (saying k x (form_of (fields l)) (body_of (fields l)))).names ≡ x.names) × (begun (marks_of (cond t x (saying k x (form_of (fields l)) (body_of (fields l))))) ≡ true)
    go true q = (refl, b)
    go false q = saying-settled k x (body_of (fields l)) b (form_of (fields l)) (line-accepted x.names (marks_of x) l q e).1.started

-- so it is to the end of an accepted sheet
pub sheet-settled : (k : ℕ) (x y : Said) (ls : List (List ℕ)) → begun (marks_of x) ≡ true → outcome_from k x ls ≡ accepted y → y.names ≡ x.names
unfolding outcome_from
sheet-settled k x y [] b e = ap (λ (o : Outcome). (said_of o).names) (sym e)
  where
    said_of : Outcome → Said
    said_of (refused n w s) = s
    said_of (accepted s) = s
sheet-settled k x y (l ∷ ls) b e = go (eqb (line_fault x.names (marks_of x) l) 0) refl e (λ z. sheet-settled (k + 1) (line_said k x l) y ls (line-settled k x l b z).1)
  where
    go : (t : Bool) → eqb (line_fault x.names (marks_of x) l) 0 ≡ t → cond t (outcome_from (k + 1) (line_said k x l) ls) (refused k (line_fault x.names (marks_of x) l) x) ≡ accepted y
        → (line_fault x.names (marks_of x) l ≡ 0 → outcome_from (k + 1) (line_said k x l) ls ≡ accepted y → y.names ≡ (line_said k x l).names) → y.names ≡ x.names
    go true q h more = let z = eqb-true _ _ q in more z h ∙ (line-settled k x l b z).0
    go false q h more = let z : ◌≡◌ {A = ℕ} 0 1 = cc in absurd (omega arith)
