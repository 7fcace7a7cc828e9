-- What is printed for a question about a sheet, for every sheet and every question.
use Rattle.std.specs.Prelude.{◌≡◌, true, false, List, [], ◌++◌, ℕ, ◌≤◌, ◌<◌, length, drop}
use Rattle.store.specs.Cell.{Cell}
use Rattle.store.specs.Cell.Cell.{In}
use Rattle.store.specs.Layout.{Holds}
use Rattle.field.specs.Names.{counts_of}
use Rattle.sheet.specs.Promise.{Held, refused_text}
use Rattle.sheet.specs.Said.{Said, SheetStatement, line_of, outcome}
use Rattle.sheet.specs.Said.Outcome.{accepted, refused as refused_at}
use Rattle.finding.specs.Finding.{BrokenSub, not_broken}
use Rattle.why.specs.Listed.{lines_of}
use Rattle.why.specs.Promise.{not_true}
use Rattle.why.specs.Reason.{Reason}
use Rattle.question.specs.Question.{AsksCell, AsksFinding, about_finding, bare}
use Rattle.cited.specs.Text.{absent_text, reason_text}

-- The text for a question, where the sheet is read with a store of row width W. First the sheet's own refusals, as `check` prints them.
-- Of a statement: 24 if its cell is not true or it asks for none; otherwise the lines of a reason for the cell, and their total.
-- Of a finding: 25 if it is none of a `sub` rule with concept names on both sides; otherwise the lines of a reason for the left cell, the right cell as absent, and the total of the lines.
pub data Answers (W : ℕ) (sheet question : List ℕ) : List ℕ → Type 0 where
  refused : {n k : ℕ} {x : Said} → outcome W sheet ≡ refused_at n k x → Answers W sheet question (refused_text n k)
  not-true : {x : Said} {t : List ℕ} → outcome W sheet ≡ accepted x → Held W x t → about_finding (bare question) ≡ false
      → ((c : Cell) → AsksCell x.names (bare question) c → ¬ (Holds W (counts_of x.names) t c)) → Answers W sheet question (refused_text 0 not_true)
  found : {x : Said} {c : Cell} {ls : List SheetStatement} → outcome W sheet ≡ accepted x → about_finding (bare question) ≡ false → AsksCell x.names (bare question) c
      → Reason (counts_of x.names) c x.statements ls → Answers W sheet question (reason_text sheet (lines_of ls) [])
  not-broken : {x : Said} {t : List ℕ} → outcome W sheet ≡ accepted x → Held W x t → about_finding (bare question) ≡ true
      → ((k a c d : ℕ) → AsksFinding x.names (bare question) (line_of x k) a → ¬ (BrokenSub W (counts_of x.names) x t k a c d)) → Answers W sheet question (refused_text 0 not_broken)
  broken : {x : Said} {t : List ℕ} {k a c d : ℕ} {ls : List SheetStatement} → outcome W sheet ≡ accepted x → Held W x t → AsksFinding x.names (bare question) (line_of x k) a
      → BrokenSub W (counts_of x.names) x t k a c d → Reason (counts_of x.names) (In a c) x.statements ls
      → Answers W sheet question (reason_text sheet (lines_of ls) (absent_text x.names a d))

-- a text has r bytes, few enough for a signed number; it is at the start of the room if it has place there, and otherwise the room is as it was
pub record Fitted (text room exit : List ℕ) (r : ℕ) : Type 0 where
  pub long : r ≡ length text
  pub written : length text ≤ length room → exit ≡ text ++ drop (length text) room
  pub left : length room < length text → exit ≡ room
  pub short : r ≤ 800000

-- the room that was lent becomes exit, and r is the length of a text for the question
pub record Replies (W : ℕ) (sheet question room exit : List ℕ) (r : ℕ) : Type 0 where
  pub text : List ℕ
  pub answers : Answers W sheet question text
  pub fitted : Fitted text room exit r
