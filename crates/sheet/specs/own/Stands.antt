-- The reader's records and the lent store stand for what was said so far.
use Rattle.std.specs.Prelude.{◌≡◌, Bool, true, false, cond, Result, Ok, Err, List, [], ℕ, ◌+◌, ◌≤◌, length}
use Rattle.text.specs.Bytes.{every}
use Rattle.text.specs.Name.{is_name, line_byte}
use Rattle.text.specs.Split.{fields}
use Rattle.reader.specs.own.Scan.{line_at}
use Rattle.text.specs.own.Split.{parts_from}
use Rattle.store.specs.declared.Counts.{Counts}
use Rattle.store.specs.declared.Statement.{Statement}
use Rattle.store.specs.Cell.{Nothing, With, cell_of}
use Rattle.store.specs.Layout.{Holds, item_limit, size}
use Rattle.store.specs.Keeps.{Keeps}
use Rattle.sheet.specs.declared.Ended.{Ended}
use Rattle.sheet.specs.declared.Kept.{Kept}
use Rattle.sheet.specs.declared.Refused.{Refused}
use Rattle.sheet.specs.declared.Start.{Start}
use Rattle.line.specs.declared.Marks.{Marks}
use Rattle.line.specs.Fault.{begun, line_fault, line_limit, rule_limit, sheet_limit}
use Rattle.sheet.specs.Promise.{Leaves, Stopped}
use Rattle.sheet.specs.Reading.{refusal_as}
use Rattle.sheet.specs.Said.{Outcome, Said, line_said, marks_of, outcome, outcome_from}
use Rattle.sheet.specs.Said.Outcome.{accepted, refused}
use Rattle.field.specs.declared.Form.TheVariants as form
use Rattle.field.specs.declared.StatementWord.{StatementWord}
use Rattle.field.specs.Words.{at, form_of}
use Rattle.field.specs.own.Line.{Looked}
use Rattle.field.specs.own.Table.{Table, Tidy, names_of, number_count, room_of, table_of}

-- the table t, the marks m and the words s, of row width W, stand for what was said, x
pub record Stands (W : ℕ) (sheet : List ℕ) (t : Table) (m : Marks) (s : List ℕ) (x : Said) : Type 0 where
  pub names : x.names ≡ names_of sheet t
  pub marks : marks_of x ≡ m
  pub tidy : Tidy sheet t
  pub few : m.rules ≤ rule_limit
  pub long : length s ≡ size W
  pub items : t.counts.items ≤ room_of t.numbers
  pub room : room_of t.numbers ≤ item_limit W
  pub places : number_count W ≤ length t.numbers
  pub store : Stopped W (begun m) x s

-- what is kept before the first line: nothing
abbrev pub blank_kept : Kept
blank_kept = record { counts = record { items = 0; concepts = 0; roles = 0 }; marks = record { stated = false; rules = 0 } }

-- the line of a declaration: its second field is a name
pub record Declaration (line : List ℕ) : Type 0 where
  pub two : 2 ≤ length (fields line)
  pub named : is_name (at 1 (fields line)) ≡ true

-- the words s have become t: fresh, unless a statement or a rule was accepted before
abbrev pub Begins : ℕ → Bool → Counts → List ℕ → List ℕ → Type 0
Begins W true n s t = t ≡ s
Begins W false n s t = Keeps W n Nothing t

-- a line without a fault, at a place of the sheet, is to be taken: what is kept stands for what was said before it
pub record Takes (W : ℕ) (sheet : List ℕ) (t : Table) (m : Marks) (s : List ℕ) (start : ℕ) (line : List ℕ) : Type 0 where
  pub said : Said
  pub stands : Stands W sheet t m s said
  pub right : line_fault (names_of sheet t) m line ≡ 0
  pub is : line ≡ line_at sheet start
  pub inside : start ≤ length sheet
  pub short : length sheet ≤ sheet_limit

-- after the line, what is kept, t', m' and s', stands for what was said with it
abbrev pub Taken : ℕ → List ℕ → Table → Marks → List ℕ → (ℕ → Said → Said) → Table → Marks → List ℕ → Type 0
Taken W sheet t m s more t' m' s' = (k : ℕ) (x : Said) → Stands W sheet t m s x → Stands W sheet t' m' s' (more k x)

-- a line that is no statement is to be taken, whatever sheet it is of
pub record TakesOther (W : ℕ) (t : Table) (m : Marks) (s : List ℕ) (start : ℕ) (line : List ℕ) : Type 0 where
  pub sheet : List ℕ
  pub takes : Takes W sheet t m s start line
  pub other : (w : StatementWord) → ¬ (form_of (fields line) ≡ form.Statement w)

-- it was taken, of every such sheet
abbrev pub TakenOther : ℕ → Table → Marks → List ℕ → ℕ → List ℕ → Table → Marks → List ℕ → Type 0
TakenOther W t m s start line t' m' s' = (sheet : List ℕ) → Takes W sheet t m s start line → Taken W sheet t m s (λ k x. line_said k x line) t' m' s'

-- a line comes at a place of the sheet, with the ends of its fields and whether its bytes are good: what is kept stands for what was said before it
pub record Comes (W : ℕ) (sheet : List ℕ) (t : Table) (m : Marks) (s : List ℕ) (start : ℕ) (line : List ℕ) (good : Bool) (ends : List ℕ) : Type 0 where
  pub said : Said
  pub stands : Stands W sheet t m s said
  pub is : line ≡ line_at sheet start
  pub inside : start ≤ length sheet
  pub short : length sheet ≤ sheet_limit
  pub bytes : good ≡ every line_byte line
  pub looked : length line ≤ line_limit → Looked line ends

-- the line was read, with its number of refusal: taken, where that is 0, and else what is kept still stands for what was said before it
pub record Came (W : ℕ) (sheet : List ℕ) (t : Table) (m : Marks) (s line : List ℕ) (number : ℕ) (t' : Table) (m' : Marks) (s' : List ℕ) : Type 0 where
  pub why : number ≡ line_fault (names_of sheet t) m line
  pub taken : number ≡ 0 → Taken W sheet t m s (λ k x. line_said k x line) t' m' s'
  pub left : (number ≡ 0 → ⊥) → Taken W sheet t m s (λ k x. x) t' m' s'

-- what is kept and the words s stand for what some sheet said
pub record Standing (W : ℕ) (k : Kept) (s : List ℕ) : Type 0 where
  pub sheet : List ℕ
  pub numbers : List ℕ
  pub said : Said
  pub stands : Stands W sheet (table_of numbers k.counts) k.marks s said

-- the statement z was added to the words s, made fresh unless a statement or a rule was accepted before: t
pub record Adding (W : ℕ) (b : Bool) (n : Counts) (z : Statement) (s t : List ℕ) : Type 0 where
  pub fresh : List ℕ
  pub begins : Begins W b n s fresh
  pub keeps : Keeps W n (With (Holds W n fresh) (cell_of z)) t

-- a statement was accepted
abbrev pub one_stated : Kept → Kept
one_stated k = record { counts = k.counts; marks = record { stated = true; rules = k.marks.rules } }

-- one rule more
abbrev pub one_rule : Kept → Kept
one_rule k = record { counts = k.counts; marks = record { stated = k.marks.stated; rules = k.marks.rules + 1 } }

-- how lines end: accepted, or refused at a line with a number of refusal
abbrev pub ending : Result (Unit {0}) Refused → Said → Outcome
ending (Ok u) x = accepted x
ending (Err q) x = refused q.line q.why x

-- the rules of a sheet whose outcome is o begin at a place, or after it: no rule was said before
pub record Beginning (sheet : List ℕ) (o : Outcome) (b : Start) : Type 0 where
  pub said : Said
  pub rules : said.rules ≡ []
  pub rest : outcome_from b.line said (parts_from 10 sheet b.at) ≡ o
  pub inside : b.at ≤ length sheet + 1
  pub near : b.line ≤ b.at + 2

-- the rules of the sheet, read with a store of row width W, begin at a place, or after it
abbrev pub Since : ℕ → List ℕ → Start → Type 0
Since W sheet b = Beginning sheet (outcome W sheet) b

-- the table of what is kept
abbrev pub kept_table : List ℕ → Ended → Table
kept_table numbers r = table_of numbers r.kept.counts

-- the lines whose outcome is o ended so, and what is kept stands for what was said up to there
pub record Ends (W : ℕ) (sheet : List ℕ) (o : Outcome) (numbers s : List ℕ) (r : Ended) : Type 0 where
  pub said : Said
  pub stands : Stands W sheet (kept_table numbers r) r.kept.marks s said
  pub ends : o ≡ ending r.read said
  pub near : (q : Refused) → r.read ≡ Err q → (1 ≤ q.line) × (q.line ≤ sheet_limit + 2)
  pub start : (u : Unit {0}) → r.read ≡ Ok u → Beginning sheet o r.start

-- how a sheet ends that is too long
abbrev pub too_long : Ended
too_long = record { read = Err (refusal_as 0 9); kept = blank_kept; start = record { at = 0; line = 0 } }

-- a whole sheet ended so: what is kept, the numbers lent for names afterwards, and the lent words, s before and t afterwards
pub record Opens (W : ℕ) (sheet s numbers t : List ℕ) (r : Ended) : Type 0 where
  pub said : Said
  pub names : said.names ≡ names_of sheet (kept_table numbers r)
  pub marks : marks_of said ≡ r.kept.marks
  pub tidy : Tidy sheet (kept_table numbers r)
  pub ends : outcome W sheet ≡ ending r.read said
  pub leaves : Leaves W (ending r.read said) s t
  pub near : (q : Refused) → r.read ≡ Err q → q.line ≤ sheet_limit + 2
  pub start : (u : Unit {0}) → r.read ≡ Ok u → Since W sheet r.start

-- the same, whatever the words were before
abbrev pub Fills : ℕ → List ℕ → List ℕ → List ℕ → Ended → Type 0
Fills W sheet numbers t r = (s : List ℕ) → Opens W sheet s numbers t r
