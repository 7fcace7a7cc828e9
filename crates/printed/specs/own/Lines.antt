-- The printed lines of one rule's findings.
use Rattle.std.specs.Prelude.{◌≡◌, List, [], ◌∷◌, ◌++◌, ℕ, ◌+◌, ◌*◌, ◌-◌, ◌≤◌, ◌<◌, length, get_or, take}
use Rattle.store.specs.declared.Counts.{Counts}
use Rattle.store.specs.Layout.{ClosedStore, Holds}
use Rattle.rule.specs.declared.Finding.{Finding}
use Rattle.rule.specs.declared.Rule.{Rule}
use Rattle.judge.specs.declared.Search.{Search}
use Rattle.rule.specs.Findings.{Findings}
use Rattle.judge.specs.own.Search.{Coming}
use Rattle.text.specs.Bytes.{bytes}
use Rattle.text.specs.Text.{decimal, Wrote}
use Rattle.field.specs.Names.{Names}
use Rattle.sheet.specs.Promise.{print_limit, second_text, tabbed}
use Rattle.printed.specs.declared.Tally.{Tally}

-- `finding`, the line number, item, second item if any
unfoldable pub line_text : Names → ℕ → Finding → List ℕ
line_text n line f = bytes "finding" ++ tabbed (decimal line) ++ tabbed (get_or n.items f.item.0 []) ++ second_text n f.second ++ (10 ∷ [])

-- a line for each
unfoldable pub lines_text : Names → ℕ → List Finding → List ℕ
lines_text n line [] = []
lines_text n line (f ∷ fs) = line_text n line f ++ lines_text n line fs

-- the first n of the findings that come were written, of the rule in a line
pub record RuleLines (s : List ℕ) (first : Search) (n : ℕ) (names : Names) (line : ℕ) (room : List ℕ) (at : ℕ) (exit : List ℕ) (r : ℕ) : Type 0 where
  pub wrote : (fs : List Finding) → Coming s first fs → n ≤ length fs → Wrote room at (lines_text names line (take n fs)) exit r

-- no line of a finding has more bytes: three numbers and names at their longest
abbrev pub finding_bound : ℕ
finding_bound = 93

-- one rule more can be printed and counted: the store s, of row width W, is closed, and the place and the total are small
pub record Tallying (W : ℕ) (s : List ℕ) (n : Counts) (b : Tally) : Type 0 where
  pub store : ClosedStore W n s
  pub left : b.left ≤ print_limit
  pub at : b.at < 500000
  pub total : b.total < 10000000000

-- the findings of the rule u, with the number k and in a line: as many as were left to print are written, and all are counted
pub record Tallied (W : ℕ) (s : List ℕ) (n : Counts) (k : ℕ) (u : Rule) (names : Names) (line : ℕ) (room : List ℕ) (b : Tally) (exit : List ℕ) (r : Tally) : Type 0 where
  pub list : List Finding
  pub findings : Findings (Holds W n s) n k u list
  pub wrote : Wrote room b.at (lines_text names line (take b.left list)) exit r.at
  pub left : r.left ≡ b.left - length list
  pub total : r.total ≡ b.total + length list
  pub short : r.at + finding_bound * r.left ≤ b.at + finding_bound * b.left
