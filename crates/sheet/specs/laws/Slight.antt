-- What an accepted sheet said is slight: its items have short names, its rules are few and stand in lines with low numbers. Assumes nothing.
use Rattle.std.specs.Prelude.{◌≡◌, refl, Bool, true, false, cond, List, [], ◌∷◌, ◌++◌, map, ℕ, zero, suc, ◌+◌, ◌≤◌, length, get_or}
use Rattle.std.proofs.Common.{ap, subst, arith, leb-false, length-append}
use Rattle.std.proofs.lemmas.List.{map-append}
use Rattle.text.specs.Name.{name_limit}
use Rattle.text.specs.Split.{fields}
use Rattle.text.specs.own.Split.{end_of, parts_from}
use Rattle.text.specs.laws.Name.{name-bounds}
use Rattle.text.specs.laws.Split.{parts-few}
use Rattle.field.specs.declared.Due.TheVariants as due
use Rattle.field.specs.declared.Form.{Form}
use Rattle.field.specs.declared.Form.TheVariants as form
use Rattle.field.specs.Words.{at, Field, body_of, form_of}
use Rattle.field.specs.laws.Right.{item-new, right-first}
use Rattle.field.specs.Due.{none}
use Rattle.line.specs.Fault.{line_fault, rule_limit, sheet_limit}
use Rattle.line.proofs.laws.Accepted.{Accepted, line-accepted}
use Rattle.sheet.specs.Said.{Said, SheetRule, line_of, line_said, marks_of, nothing, outcome, outcome_from, saying}
use Rattle.sheet.specs.Said.Outcome.{accepted}
use Rattle.sheet.specs.laws.Pass.{accepted-start, accepted-step, said_of}

-- said before line k: each item's name is short, each rule stands in a line of number k at most, and there are not too many rules
pub record Slight (k : ℕ) (x : Said) : Type 0 where
  pub names : (i : ℕ) → length (get_or x.names.items i []) ≤ name_limit
  pub lines : (i : ℕ) → line_of x i ≤ k
  pub few : length x.rules ≤ rule_limit

-- what holds of each entry of a list, and where there is none, also does with one more at the end
all-last : {A : Type 0} (P : A → Type 0) (d : A) (xs : List A) (y : A) → P d → P y → ((i : ℕ) → P (get_or xs i d)) → (i : ℕ) → P (get_or (xs ++ y ∷ []) i d)
all-last P d [] y e h f zero = h
all-last P d [] y e h f (suc i) = e
all-last P d (x ∷ xs) y e h f zero = f zero
all-last P d (x ∷ xs) y e h f (suc i) = all-last P d xs y e h (λ j. f (suc j)) i

-- nothing is slight
slight-nothing : (room : ℕ) → Slight 2 (nothing room)
slight-nothing room = record { names = λ i. omega arith; lines = λ i. omega arith; few = omega arith }

-- a line more
module _ (k : ℕ) (x : Said) (fs : List Field) (s : Slight k x) where
  -- that leaves the items and the rules
  same-slight : (y : Said) → y.names.items ≡ x.names.items → y.rules ≡ x.rules → Slight (k + 1) y
  same-slight y e f = record {
    names = λ i. rw e (s.names i);
    lines = λ i. let h = s.lines i in rw f (omega arith);
    few = rw f s.few;
  }

  saying-slight : (f : Form) → Accepted x.names (marks_of x) f fs → Slight (k + 1) (saying k x f fs)
  saying-slight form.Concept a = same-slight (saying k x form.Concept fs) refl refl
  saying-slight form.Role a = same-slight (saying k x form.Role fs) refl refl
  saying-slight form.Item a =
      let new = item-new x.names (at 0 fs) (right-first x.names due.NewItem [] fs refl a.right).0 in
      record {
        names = all-last (λ (f : Field). length f ≤ name_limit) [] x.names.items (at 0 fs) (omega arith) (name-bounds (at 0 fs) new.well).1 s.names;
        lines = λ i. let h = s.lines i in omega arith;
        few = s.few;
      }
  saying-slight (form.Statement w) a = same-slight (saying k x (form.Statement w) fs) refl refl
  saying-slight (form.Rule w) a =
      record {
        names = s.names;
        lines = rw map-append (all-last (λ (n : ℕ). n ≤ k + 1) 0 (map (λ (r : SheetRule). r.line) x.rules) k (omega arith) (omega arith) (λ i. let h = s.lines i in omega arith));
        few = rw length-append (omega (arith, leb-false rule_limit (length x.rules) a.room));
      }
  saying-slight form.Bare a = same-slight x refl refl
  saying-slight form.Unknown a = same-slight x refl refl

line-slight : (k : ℕ) (x : Said) (l : List ℕ) → Slight k x → line_fault x.names (marks_of x) l ≡ 0 → Slight (k + 1) (line_said k x l)
unfolding line_said
line-slight k x l s e = go (none l) refl
  where
    go : (t : Bool) → none l ≡ t → Slight (k + 1) (cond t x (saying k x (form_of (fields l)) (body_of (fields l))))
    go true q = same-slight k x [] s x refl refl
    go false q = saying-slight k x (body_of (fields l)) s (form_of (fields l)) (line-accepted x.names (marks_of x) l q e).1

-- to the end of the lines
from-slight : (k : ℕ) (x y : Said) (ls : List (List ℕ)) → Slight k x → outcome_from k x ls ≡ accepted y → Slight (k + length ls) y
unfolding outcome_from
from-slight k x y [] s e = let z : k + 0 ≡ k = omega arith in rw z (subst (Slight k) (ap said_of e) s)
from-slight k x y (l ∷ ls) s e =
    let a = accepted-step k x y l ls e in
    let z : k + suc (length ls) ≡ k + 1 + length ls = omega arith in
    rw z (from-slight (k + 1) (line_said k x l) y ls (line-slight k x l s a.0) a.1)

-- the whole sheet
pub sheet-slight : (W : ℕ) (sheet : List ℕ) {x : Said} → outcome W sheet ≡ accepted x → Slight (sheet_limit + 3) x
sheet-slight W sheet {x} e =
    let a = accepted-start W sheet x e in
    let ls = parts_from 10 sheet (end_of 10 sheet 0 + 1) in
    let s = from-slight 2 (nothing a.0) x ls (slight-nothing a.0) a.2 in
    let b = parts-few 10 sheet (end_of 10 sheet 0 + 1) in
    record { names = s.names; lines = λ i. omega (arith, s.lines i, a.1); few = s.few }
