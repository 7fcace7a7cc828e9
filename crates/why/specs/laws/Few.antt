-- A sheet has no more statements than there are marks: the line of each has at least five bytes with its line feed. Assumes nothing.
use Rattle.std.specs.Prelude.{◌≡◌, refl, Some, List, [], ◌∷◌, ℕ, suc, ◌+◌, ◌*◌, ◌-◌, ◌≤◌, ◌<◌, length}
use Rattle.std.proofs.Common.{sym, ap, ◌∙◌, zero-le, arith, length-append}
use Rattle.text.specs.own.Split.{part_of, end_of, parts_from}
use Rattle.text.specs.Split.{fields, split}
use Rattle.text.specs.laws.Split.{parts_all, parts_next}
use Rattle.field.specs.own.Table.{Table}
use Rattle.field.specs.declared.Form.{Form}
use Rattle.field.specs.declared.Form.TheVariants as form
use Rattle.line.specs.Fault.{line_fault}
use Rattle.sheet.specs.Said.{Outcome, Said, line_said, marks_of, nothing, outcome, outcome_from, saying, SheetStatement}
use Rattle.stated.specs.Stated.{statement_of}
use Rattle.sheet.specs.Said.Outcome.{accepted}
use Rattle.field.specs.Words.{body_of, form_of}
use Rattle.line.proofs.laws.Accepted.{line-accepted}
use Rattle.sheet.specs.laws.Pass.{accepted-start, accepted-step, said_of}
use Rattle.why.specs.declared.StatementLine.{StatementLine}
use Rattle.why.specs.own.Gather.{statement_limit}
use Rattle.why.specs.own.Stating.{Next, found_statement}
use Rattle.why.specs.laws.Long.{line-long, split-total, total}
use Rattle.why.specs.laws.Stating.{Turn, turn-passing}

-- one line adds a statement only if it is long enough
said-few : (k : ℕ) (s : Said) (l : List ℕ) → line_fault s.names (marks_of s) l ≡ 0 → 5 * length (line_said k s l).statements ≤ 5 * length s.statements + suc (length l)
unfolding line_said
said-few k s [] e = omega arith
said-few k s (b ∷ l) e = go (form_of (fields (b ∷ l))) refl
  where
    go : (f : Form) → form_of (fields (b ∷ l)) ≡ f → 5 * length (saying k s f (body_of (fields (b ∷ l)))).statements ≤ 5 * length s.statements + suc (length (b ∷ l))
    go form.Concept z = omega arith
    go form.Role z = omega arith
    go form.Item z = omega arith
    go (form.Statement w) z =
        let a = (line-accepted s.names (marks_of s) (b ∷ l) refl e).1 in
        let r = rw z at a in
        omega (arith, length-append s.statements (record { line = k; statement = statement_of s.names w (body_of (fields (b ∷ l))) } ∷ []), line-long s.names (b ∷ l) w z r.right)
    go (form.Rule w) z = omega arith
    go form.Bare z = omega arith
    go form.Unknown z = omega arith

from-few : (k : ℕ) (s x : Said) (ls : List (List ℕ)) → outcome_from k s ls ≡ accepted x → 5 * length x.statements ≤ 5 * length s.statements + total ls
unfolding outcome_from
from-few k s x [] e = let z : length s.statements ≡ length x.statements = ap (λ (o : Outcome). length (said_of o).statements) e in omega arith
from-few k s x (l ∷ ls) e =
    let z = accepted-step k s x l ls e in
    omega (arith, from-few (k + 1) (line_said k s l) x ls z.1, said-few k s l z.0)

pub statements-few : (W : ℕ) (sheet : List ℕ) (x : Said) → outcome W sheet ≡ accepted x → length x.statements ≤ statement_limit
statements-few W sheet x o =
    let z = accepted-start W sheet x o in
    let p : split 10 sheet ≡ part_of sheet 0 (end_of 10 sheet 0 - 0) ∷ parts_from 10 sheet (end_of 10 sheet 0 + 1) = sym (parts_all 10 sheet) ∙ parts_next 10 sheet 0 zero-le in
    omega (arith, from-few 2 (nothing z.0) x (parts_from 10 sheet (end_of 10 sheet 0 + 1)) z.2, ap total p, split-total 10 sheet, z.1)

-- no line takes a statement back
said_more : (k : ℕ) (s : Said) (l : List ℕ) → length s.statements ≤ length (line_said k s l).statements
unfolding line_said
said_more k s [] = omega arith
said_more k s (b ∷ l) = go (form_of (fields (b ∷ l)))
  where
    go : (f : Form) → length s.statements ≤ length (saying k s f (body_of (fields (b ∷ l)))).statements
    go form.Concept = omega arith
    go form.Role = omega arith
    go form.Item = omega arith
    go (form.Statement w) = omega (arith, length-append s.statements (record { line = k; statement = statement_of s.names w (body_of (fields (b ∷ l))) } ∷ []))
    go (form.Rule w) = omega arith
    go form.Bare = omega arith
    go form.Unknown = omega arith

from_more : (k : ℕ) (s x : Said) (ls : List (List ℕ)) → outcome_from k s ls ≡ accepted x → length s.statements ≤ length x.statements
unfolding outcome_from
from_more k s x [] e = let z : length s.statements ≡ length x.statements = ap (λ (o : Outcome). length (said_of o).statements) e in omega arith
from_more k s x (l ∷ ls) e = omega (arith, from_more (k + 1) (line_said k s l) x ls (accepted-step k s x l ls e).1, said_more k s l)

-- a statement that is met in its turn is one of them
pub turn-few : (W : ℕ) {sheet : List ℕ} {t : Table} {x : Said} {P : List SheetStatement → Type 0} {q : StatementLine} {at k n : ℕ} (w : Turn sheet t x P at k n) → Next sheet t at k (Some q) → outcome W sheet ≡ accepted x → n < statement_limit
turn-few W {sheet} {x = x} {q = q} w z o =
    let p = turn-passing w z in
    omega (arith, statements-few W sheet x o, w.number, from_more _ p.said x _ p.rest, ap length p.statements, length-append w.done (found_statement q ∷ []))
