-- What a sheet says, line by line, up to its end or to its first faulty line.
use Rattle.std.specs.Prelude.{◌≡◌, cond, not, List, [], ◌∷◌, ◌++◌, map, ℕ, ◌+◌, leb, eqb, length, get_or}
use Rattle.text.specs.Split.{fields, lines}
use Rattle.store.specs.declared.Statement.{Statement}
use Rattle.store.specs.Cell.{Cell}
use Rattle.closure.specs.Lines.{Stated}
use Rattle.rule.specs.declared.Rule.{Rule}
use Rattle.field.specs.declared.Form.{Form}
use Rattle.field.specs.declared.Form.TheVariants as form
use Rattle.line.specs.declared.Marks.{Marks}
use Rattle.field.specs.Due.{none}
use Rattle.line.specs.Fault.{header_fault, line_fault, room_by, sheet_limit}
use Rattle.field.specs.Names.{Names}
use Rattle.field.specs.Words.{at, Field, form_of, body_of}
use Rattle.saying.specs.Read.{rule_of}
use Rattle.stated.specs.Stated.{statement_of}

-- a rule of a sheet, and the number of its line
pub record SheetRule : Type 0 where
  pub line : ℕ
  pub rule : Rule

-- a statement of a sheet, and the number of its line
pub record SheetStatement : Type 0 where
  pub line : ℕ
  pub statement : Statement

-- the statements without their lines
abbrev pub statements_of : List SheetStatement → List Statement
statements_of ls = map (λ (l : SheetStatement). l.statement) ls

-- what the lines so far said: the names declared, the statements and the rules, in order
pub record Said : Type 0 where
  pub names : Names
  pub statements : List SheetStatement
  pub rules : List SheetRule

-- the cells that the statements of a sheet state
abbrev pub StatedIn : Said → Cell → Type 0
StatedIn x = Stated (statements_of x.statements)

-- u is the rule of the sheet x with the number k, from 0
pub record RuleAt (x : Said) (k : ℕ) (u : Rule) : Type 0 where
  pub before : List SheetRule
  pub line : ℕ
  pub after : List SheetRule
  pub is : x.rules ≡ before ++ record { line = line; rule = u } ∷ after
  pub place : k ≡ length before

-- the line number of the rule with the number k
abbrev pub line_of : Said → ℕ → ℕ
line_of x k = get_or (map (λ (r : SheetRule). r.line) x.rules) k 0

-- how far the sheet has come
abbrev pub marks_of : Said → Marks
marks_of s = record { stated = not (none s.statements); rules = length s.rules }

-- nothing, where there is room for so many items
abbrev pub nothing : ℕ → Said
nothing room = record { names = record { concepts = []; roles = []; items = []; room = room }; statements = []; rules = [] }

-- what has been said after a line more, which has the number k
abbrev pub saying : ℕ → Said → Form → List Field → Said
saying k s form.Concept fs =
    record { names = record { concepts = s.names.concepts ++ (at 0 fs ∷ []); roles = s.names.roles; items = s.names.items; room = s.names.room }; statements = s.statements; rules = s.rules }
saying k s form.Role fs =
    record { names = record { concepts = s.names.concepts; roles = s.names.roles ++ (at 0 fs ∷ []); items = s.names.items; room = s.names.room }; statements = s.statements; rules = s.rules }
saying k s form.Item fs =
    record { names = record { concepts = s.names.concepts; roles = s.names.roles; items = s.names.items ++ (at 0 fs ∷ []); room = s.names.room }; statements = s.statements; rules = s.rules }
saying k s (form.Statement w) fs = record { names = s.names; statements = s.statements ++ (record { line = k; statement = statement_of s.names w fs } ∷ []); rules = s.rules }
saying k s (form.Rule w) fs = record { names = s.names; statements = s.statements; rules = s.rules ++ (record { line = k; rule = rule_of s.names w fs } ∷ []) }
saying k s form.Bare fs = s
saying k s form.Unknown fs = s

unfoldable pub line_said : ℕ → Said → List ℕ → Said
line_said k s l = cond (none l) s (saying k s (form_of (fields l)) (body_of (fields l)))

-- how a sheet ends: refused at a line by a number, after what the lines before it said; or accepted
pub data Outcome : Type 0 where
  refused : ℕ → ℕ → Said → Outcome
  accepted : Said → Outcome

-- the lines from number k on, after what was said before them: the earliest faulty line, then the lowest number
unfoldable pub outcome_from : ℕ → Said → List (List ℕ) → Outcome
outcome_from k s [] = accepted s
outcome_from k s (l ∷ ls) = cond (eqb (line_fault s.names (marks_of s) l) 0) (outcome_from (k + 1) (line_said k s l) ls) (refused k (line_fault s.names (marks_of s) l) s)

-- line 1, and the lines after it, where the store has item rows of W words
abbrev pub outcome_of : ℕ → List (List ℕ) → Outcome
outcome_of W [] = refused 1 11 (nothing 0)
outcome_of W (l ∷ ls) = cond (eqb (header_fault W l) 0) (outcome_from 2 (nothing (room_by l)) ls) (refused 1 (header_fault W l) (nothing 0))

-- a whole sheet, read with a store with item rows of W words
unfoldable pub outcome : ℕ → List ℕ → Outcome
outcome W sheet = cond (leb (length sheet) sheet_limit) (outcome_of W (lines sheet)) (refused 0 9 (nothing 0))
