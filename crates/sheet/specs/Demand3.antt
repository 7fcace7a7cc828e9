-- Demand 3 for sheets.
use Rattle.std.specs.Prelude.{◌≡◌, true, List, [], ◌∷◌, ◌++◌, map, ℕ, suc, ◌≤◌, length}
use Rattle.logic.specs.Number.{One}
use Rattle.row.specs.Bit.{Words}
use Rattle.text.specs.Split.{fields, lines}
use Rattle.store.specs.declared.Statement.{Statement}
use Rattle.store.specs.Layout.{size, width_of}
use Rattle.rule.specs.declared.Rule.{Rule}
use Rattle.field.specs.declared.Form.TheVariants as form
use Rattle.field.specs.declared.StatementWord.{StatementWord}
use Rattle.sheet.specs.Reading.{Reading}
use Rattle.line.specs.Fault.{begun, sheet_limit}
use Rattle.field.specs.Names.{counts_of}
use Rattle.field.specs.Words.{form_of}
use Rattle.sheet.specs.Promise.{Held, Reads}
use Rattle.sheet.specs.Said.{Said, SheetRule, marks_of, outcome, statements_of}
use Rattle.sheet.specs.Said.Outcome.{accepted, refused}

-- the same statements, in whatever order and however often
abbrev pub SameStatements : Said → Said → Type 0
SameStatements x y = ((z : Statement) → One z (statements_of x.statements) → One z (statements_of y.statements)) × ((z : Statement) → One z (statements_of y.statements) → One z (statements_of x.statements))

-- the rules without their lines
abbrev pub rules_of : List SheetRule → List Rule
rules_of rs = map (λ (r : SheetRule). r.rule) rs

-- the same is said: the same names, the same statements, and the same rules in the same order; the numbers of their lines may differ
pub record SameSaid (x y : Said) : Type 0 where
  pub names : x.names ≡ y.names
  pub statements : SameStatements x y
  pub rules : rules_of x.rules ≡ rules_of y.rules

-- the lent words are a store's in length, of row width W
pub record Sizes (W : ℕ) (s : List ℕ) : Type 0 where
  pub width : width_of s ≡ W
  pub long : length s ≡ size W

-- the line of a statement, or an empty line
pub data Stating : List ℕ → Type 0 where
  empty : Stating []
  statement : {l : List ℕ} {w : StatementWord} → form_of (fields l) ≡ form.Statement w → Stating l

-- Two sheets with the same lines but for a stretch of statement lines: there each has the lines of the other, in another order or said again.
-- first: line 1; front and back: the lines that stay; middle, middle': the statement lines, empty ones among them
pub record Rearranged (sheet other : List ℕ) : Type 0 where
  pub first : List ℕ
  pub front : List (List ℕ)
  pub middle : List (List ℕ)
  pub middle' : List (List ℕ)
  pub back : List (List ℕ)
  pub one : lines sheet ≡ first ∷ (front ++ (middle ++ back))
  pub another : lines other ≡ first ∷ (front ++ (middle' ++ back))
  pub stating : (l : List ℕ) → One l middle → Stating l
  pub to : (l : List ℕ) → One l middle → One l middle'
  pub from : (l : List ℕ) → One l middle' → One l middle

-- for the stores of row width W: one field a sentence
pub record SheetDemand3 (W : ℕ) : Type 0 where
  -- the store of an accepted sheet holds exactly what follows from its statements
  pub holds : {sheet s t : List ℕ} {x : Said} {r : Reading} → Sizes W s → outcome W sheet ≡ accepted x → Reads sheet s t r → Held W x t
  -- order and repeats change nothing: two sheets with as many names each and the same statements leave the same store
  pub any_order : {sheet other s u t v : List ℕ} {x y : Said} {r q : Reading} → Words 64 t → Words 64 v → Sizes W s → Sizes W u → outcome W sheet ≡ accepted x → outcome W other ≡ accepted y
      → counts_of x.names ≡ counts_of y.names → SameStatements x y → Reads sheet s t r → Reads other u v q → t ≡ v
  -- statement lines of an accepted sheet in another order, or said again, the length allowing, are accepted, and the same is said
  pub rearranged : {sheet other : List ℕ} {x : Said} → Rearranged sheet other → length other ≤ sheet_limit → outcome W sheet ≡ accepted x → (y : Said) × (outcome W other ≡ accepted y) × SameSaid x y
  -- they leave the same store, and give the same answer: as many names, rules and findings
  pub rearranged-reads : {sheet other s u t v : List ℕ} {x : Said} {r q : Reading} → Words 64 t → Words 64 v → Sizes W s → Sizes W u → Rearranged sheet other
      → length other ≤ sheet_limit → outcome W sheet ≡ accepted x → Reads sheet s t r → Reads other u v q → (t ≡ v) × (r ≡ q)
  -- a refused line changes nothing: the store holds what follows from the lines before it
  pub unchanged : {sheet s t : List ℕ} {x : Said} {r : Reading} {line k : ℕ} → Sizes W s → outcome W sheet ≡ refused (suc line) k x → begun (marks_of x) ≡ true → Reads sheet s t r → Held W x t
