-- The cursor: where it stands, and the findings that are still to come.
use Rattle.std.specs.Prelude.{◌≡◌, ◌⊎◌, List, [], ◌∷◌, ℕ, ◌≤◌, ◌<◌}
use Rattle.logic.specs.Number.{One}
use Rattle.row.specs.own.Row.{RowHas}
use Rattle.store.specs.declared.Counts.{Counts}
use Rattle.store.specs.Cell.{Cell, DeclaredItem}
use Rattle.rule.specs.declared.Finding.{Finding}
use Rattle.breach.specs.declared.Plan.{Plan}
use Rattle.rule.specs.Second.{Second}
use Rattle.rule.specs.Findings.{InOrder, finding_of}
use Rattle.breach.specs.own.Plan.{PlaceBreaks, PlanBreaks, place_of, second_at}
use Rattle.judge.specs.declared.Cursor as declared

-- a plan's rule is broken by the pair of an item and a second item or none
abbrev pub PlanBroken : (Cell → Type 0) → Counts → Plan → ℕ × Second → Type 0
PlanBroken C n p q = PlanBreaks C n p q.0 q.1

-- the same, with the item below x
abbrev pub BrokenBelow : (Cell → Type 0) → Counts → Plan → ℕ → ℕ × Second → Type 0
BrokenBelow C n p x q = (q.0 < x) × PlanBreaks C n p q.0 q.1

-- the list has exactly what has the property Q, as findings with the rule's number, in order
pub record Listed (number : ℕ) (Q : ℕ → Second → Type 0) (fs : List Finding) : Type 0 where
  pub ordered : InOrder fs
  pub sound : (f : Finding) → One f fs → (f.rule ≡ number) × Q f.item.0 f.second
  pub whole : (x : ℕ) (s : Second) → Q x s → One (finding_of number x s) fs

-- what breaks the rule and is still to come: it is in a later row, or left in the cursor's own
pub record Left (C : Cell → Type 0) (n : Counts) (c : declared.Cursor) (x : ℕ) (s : Second) : Type 0 where
  pub breaks : PlanBreaks C n c.plan x s
  pub ahead : (c.x < x) ⊎ ((c.x ≡ x) × RowHas c.row (place_of s))

-- the finding at the cursor
abbrev pub current_of : ℕ → declared.Cursor → Finding
current_of number c = finding_of number c.x (second_at c.plan.head c.y)

-- the cursor stands at the least place left in its row, if it is not at the end
pub record Stands (C : Cell → Type 0) (n : Counts) (c : declared.Cursor) : Type 0 where
  pub row : (y : ℕ) → RowHas c.row y → DeclaredItem n c.x × DeclaredItem n y × PlaceBreaks C n c.plan c.x y
  pub here : DeclaredItem n c.x → RowHas c.row c.y
  pub least : (y : ℕ) → y < c.y → ¬ (RowHas c.row y)

-- the findings from the cursor on are exactly this list, in order
pub record Ahead (C : Cell → Type 0) (n : Counts) (number : ℕ) (c : declared.Cursor) (fs : List Finding) : Type 0 where
  pub stands : Stands C n c
  pub list : Listed number (Left C n c) fs

-- no item from `from` to below x breaks the rule
pub record Gone (C : Cell → Type 0) (n : Counts) (p : Plan) (from x : ℕ) : Type 0 where
  pub none : (z : ℕ) (s : Second) → from ≤ z → z < x → ¬ (PlanBreaks C n p z s)

-- the cursor stands at the first finding from the row `from` on, or at the end
pub record Sought (C : Cell → Type 0) (n : Counts) (p : Plan) (from : ℕ) (c : declared.Cursor) : Type 0 where
  pub plan : c.plan ≡ p
  pub since : from ≤ c.x
  pub gone : Gone C n p from c.x
  pub stands : Stands C n c
  pub whole : (y : ℕ) → DeclaredItem n c.x → DeclaredItem n y → PlaceBreaks C n c.plan c.x y → RowHas c.row y

-- the cursor is at the first of all findings of the plan's rule
pub record Begins (C : Cell → Type 0) (n : Counts) (p : Plan) (c : declared.Cursor) : Type 0 where
  pub all : (number : ℕ) (fs : List Finding) → Listed number (PlanBreaks C n p) fs → Ahead C n number c fs

-- the cursor d is one finding further than c; at the end it stays there
pub record Advances (C : Cell → Type 0) (n : Counts) (c d : declared.Cursor) : Type 0 where
  pub next : (number : ℕ) (f : Finding) (fs : List Finding) → Ahead C n number c (f ∷ fs) → Ahead C n number d fs
  pub stays : (number : ℕ) → Ahead C n number c [] → Ahead C n number d []
