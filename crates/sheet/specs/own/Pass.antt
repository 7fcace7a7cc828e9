-- The reader's own records of its second reading: the rules of an accepted sheet, one after the other.
use Rattle.std.specs.Prelude.{◌≡◌, List, [], ◌∷◌, ◌++◌, ℕ, ◌+◌, ◌-◌, ◌≤◌, ◌<◌, length, Option, Some, None}
use Rattle.text.specs.Split.{fields}
use Rattle.text.specs.own.Split.{parts_from}
use Rattle.store.specs.Layout.{ClosedStore, Holds, size, width_of}
use Rattle.rule.specs.declared.Finding.{Finding}
use Rattle.judge.specs.Total.{Total}
use Rattle.std.specs.Prelude.{Err, Ok}
use Rattle.field.specs.declared.Form.{Form}
use Rattle.field.specs.declared.Form.TheVariants as form
use Rattle.sheet.specs.declared.RuleLine.{RuleLine}
use Rattle.field.specs.declared.RuleWord.{RuleWord}
use Rattle.sheet.specs.declared.Whole.{Whole}
use Rattle.line.specs.Fault.{sheet_limit}
use Rattle.field.specs.Names.{Names, counts_of}
use Rattle.saying.specs.own.Nodes.{RuleReady}
use Rattle.sheet.specs.Promise.{FindingsFrom, Reads}
use Rattle.saying.specs.Read.{rule_of}
use Rattle.sheet.specs.Said.{Said, SheetRule, outcome, outcome_from}
use Rattle.sheet.specs.Said.Outcome.{accepted}
use Rattle.field.specs.own.Table.{Table, Tidy, names_of, table_of}
use Rattle.sheet.specs.own.Stands.{Since}
use Rattle.field.specs.Words.{Field, body_of, form_of}
use Rattle.field.specs.declared.known.Known.{Known}

-- the table of the names that are known
abbrev pub table_in : Known → Table
table_in k = table_of k.numbers.now k.counts

-- the line of a rule has the fields that are due
abbrev pub RuleIfReady : List ℕ → Type 0
RuleIfReady l = (w : RuleWord) → form_of (fields l) ≡ form.Rule w → RuleReady w (body_of (fields l))

-- the rule of a line, by its form; the line has the number k, and `past` is the place past it
abbrev pub line_rule : Names → Form → List Field → ℕ → ℕ → Option RuleLine
line_rule n form.Concept fs k past = None
line_rule n form.Role fs k past = None
line_rule n form.Item fs k past = None
line_rule n (form.Statement w) fs k past = None
line_rule n (form.Rule w) fs k past = Some (record { line = k; past = past; rule = rule_of n w fs })
line_rule n form.Bare fs k past = None
line_rule n form.Unknown fs k past = None

-- the table t has the names of the accepted sheet x; its lines from a place on, the first of which has the number k, come after its rules `done`
pub record Passing (sheet : List ℕ) (t : Table) (x : Said) (done : List SheetRule) (at k : ℕ) : Type 0 where
  pub said : Said
  pub names : x.names ≡ names_of sheet t
  pub rules : said.rules ≡ done
  pub rest : outcome_from k said (parts_from 10 sheet at) ≡ accepted x
  pub short : length sheet ≤ sheet_limit
  pub inside : at ≤ length sheet + 1
  pub near : k ≤ at + 2

-- the second reading stands at a place of an accepted sheet
pub record Paused (sheet : List ℕ) (t : Table) (at k : ℕ) : Type 0 where
  pub all : Said
  pub before : List SheetRule
  pub passing : Passing sheet t all before at k

-- the rule that was found
abbrev pub found_rule : RuleLine → SheetRule
found_rule r = record { line = r.line; rule = r.rule }

-- the rule after those `done`, or there is none
abbrev pub NextRule : List ℕ → Table → Said → List SheetRule → Option RuleLine → Type 0
NextRule sheet t x done (Some r) = Passing sheet t x (done ++ found_rule r ∷ []) r.past (r.line + 1)
NextRule sheet t x done None = x.rules ≡ done

-- the first rule from a place on
pub record Next (sheet : List ℕ) (t : Table) (at k : ℕ) (r : Option RuleLine) : Type 0 where
  pub rule : (x : Said) (done : List SheetRule) → Passing sheet t x done at k → NextRule sheet t x done r
  pub later : (q : RuleLine) → r ≡ Some q → at < q.past
  pub inside : (q : RuleLine) → r ≡ Some q → q.past ≤ length sheet + 2

-- how much of a sheet with so many bytes is left after the rule that comes next
abbrev pub left_after : ℕ → Option RuleLine → ℕ
left_after n (Some q) = n + 3 - q.past
left_after n None = 0

-- the table t has the names of the sheet, which is accepted, with a store of some row width
pub record Accepts (sheet : List ℕ) (t : Table) : Type 0 where
  pub width : ℕ
  pub said : Said
  pub ends : outcome width sheet ≡ accepted said
  pub names : said.names ≡ names_of sheet t

-- the first rule of an accepted sheet
pub record Opened (sheet : List ℕ) (t : Table) (r : Option RuleLine) : Type 0 where
  pub rule : (W : ℕ) (x : Said) → outcome W sheet ≡ accepted x → x.names ≡ names_of sheet t → NextRule sheet t x [] r
  pub inside : (q : RuleLine) → r ≡ Some q → q.past ≤ length sheet + 2

-- the findings that an answer counts
abbrev pub counted_in : Total → ℕ
counted_in (Ok m) = m
counted_in (Err k) = 0

-- the rules `done` of the sheet x have so many findings in the store t
pub record Counted (W : ℕ) (x : Said) (t : List ℕ) (done : List SheetRule) (total : ℕ) : Type 0 where
  pub list : List Finding
  pub findings : FindingsFrom (Holds W (counts_of x.names) t) (counts_of x.names) 0 done list
  pub all : total ≡ length list

-- the sheet with the names of the table t is accepted, and the words s are a closed store for them, of row width W
pub record Judges (W : ℕ) (sheet : List ℕ) (t : Table) (s : List ℕ) : Type 0 where
  pub tidy : Tidy sheet t
  pub sheet_said : Accepts sheet t
  pub with : sheet_said.width ≡ W
  pub store : ClosedStore W t.counts s

-- its rules have so many findings in all
abbrev pub Totalled : ℕ → List ℕ → Table → List ℕ → ℕ → Type 0
Totalled W sheet t s r = (x : Said) → outcome W sheet ≡ accepted x → x.names ≡ names_of sheet t → Counted W x s x.rules r

-- a sheet was read into the store s, which became t: the answer, the table of the names, and where the rules begin, if it was accepted
pub record Wholly (sheet s t numbers : List ℕ) (r : Whole) : Type 0 where
  pub reads : Reads sheet s t r.answer
  pub tidy : Tidy sheet (table_of numbers r.counts)
  pub names : (x : Said) → length s ≡ size (width_of s) → outcome (width_of s) sheet ≡ accepted x → x.names ≡ names_of sheet (table_of numbers r.counts)
  pub start : (x : Said) → length s ≡ size (width_of s) → outcome (width_of s) sheet ≡ accepted x → Since (width_of s) sheet r.start
