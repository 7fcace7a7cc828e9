-- What the host gets for a question: the text, or minus 8 where it is longer than the room; and reasons by number.
use Rattle.std.specs.Prelude.{◌≡◌, List, ℕ, ℤ}
use Rattle.store.specs.Cell.{Cell}
use Rattle.why.specs.Explained.{Explained}
use Rattle.finding.specs.Explained.{FindingExplained}
use Rattle.finding.specs.Finding.{ExplainsFinding}
use Rattle.why.specs.Promise.{Explains}
use Rattle.store.specs.Layout.{small}
use Rattle.answer.specs.Promise.{Answers}
use Rattle.handover.specs.Room.{InRoom}
use Rattle.signed.specs.Codes.{explained_code, finding_code}

-- the room that was lent becomes exit; the sheet is read with the smaller store
abbrev pub Whys : List ℕ → List ℕ → List ℕ → List ℕ → ℤ → Type 0
Whys sheet question room exit r = InRoom (Answers small sheet question) room exit r

-- asking why a cell is true gives r
pub record ExplainCode (sheet s t : List ℕ) (c : Cell) (before after : List ℕ) (r : ℤ) : Type 0 where
  pub answer : Explained
  pub explains : Explains sheet s t c before after answer
  pub code : r ≡ explained_code answer

-- asking why the item a is a finding of the rule k gives r
pub record FindingCode (sheet s t : List ℕ) (k a : ℕ) (before after : List ℕ) (r : ℤ) : Type 0 where
  pub answer : FindingExplained
  pub explains : ExplainsFinding sheet s t k a before after answer
  pub code : r ≡ finding_code answer
