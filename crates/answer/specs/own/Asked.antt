-- The finding that a question asks for.
use Rattle.std.specs.Prelude.{◌≡◌, Bool, true, false, Option, Some, None, List, ℕ}
use Rattle.text.specs.Bytes.{same}
use Rattle.text.specs.Text.{decimal}
use Rattle.store.specs.declared.Counts.{Counts}
use Rattle.field.specs.own.Table.{Table}
use Rattle.sheet.specs.Said.{Said, line_of}
use Rattle.field.specs.Words.{Field}
use Rattle.finding.specs.declared.Sides.{Sides}
use Rattle.finding.specs.Finding.{BrokenSub}
use Rattle.finding.specs.own.Sides.{Breaking}
use Rattle.answer.specs.declared.FindingAsked.{FindingAsked}
use Rattle.question.specs.Question.{AsksFinding}

-- the rule k of the sheet x is in the line whose number the field f says, and the item a breaks it in the store s, of row width W; it has concept names on both sides
pub record BrokenIn (W : ℕ) (n : Counts) (x : Said) (s : List ℕ) (f : Field) (a c d : ℕ) : Type 0 where
  pub rule : ℕ
  pub line : same f (decimal (line_of x rule)) ≡ true
  pub broken : BrokenSub W n x s rule a c d

-- the sides of the rule k, if `on` and if the item a breaks it
pub record BreakingIf (W : ℕ) (on : Bool) (sheet : List ℕ) (t : Table) (s : List ℕ) (k a : ℕ) (r : Option Sides) : Type 0 where
  pub breaking : on ≡ true → Breaking W sheet t s k a r
  pub none : on ≡ false → r ≡ None

-- the sides of such a rule, or there is none
abbrev pub SidesIf : ℕ → Counts → Said → List ℕ → Field → ℕ → Option Sides → Type 0
SidesIf W n x s f a (Some r) = BrokenIn W n x s f a r.left r.right
SidesIf W n x s f a None = (c d : ℕ) → ¬ (BrokenIn W n x s f a c d)

-- the question q is the line of a finding of such a rule
pub record FindingIn (W : ℕ) (n : Counts) (x : Said) (s q : List ℕ) (a c d : ℕ) : Type 0 where
  pub rule : ℕ
  pub asks : AsksFinding x.names q (line_of x rule) a
  pub broken : BrokenSub W n x s rule a c d

-- the finding that a question asks for, or it asks for none
abbrev pub FindingIf : ℕ → Counts → Said → List ℕ → List ℕ → Option FindingAsked → Type 0
FindingIf W n x s q (Some r) = FindingIn W n x s q r.item r.left r.right
FindingIf W n x s q None = (a c d : ℕ) → ¬ (FindingIn W n x s q a c d)
