-- How the rule of a finding is sought.
use Rattle.std.specs.Prelude.{◌≡◌, Option, Some, None, List, ℕ, ◌≤◌, length}
use Rattle.store.specs.declared.Concept.{Concept}
use Rattle.store.specs.declared.Counts.{Counts}
use Rattle.rule.specs.declared.Node.{Node}
use Rattle.rule.specs.declared.Node.TheVariants as node
use Rattle.rule.specs.declared.Rule.{Rule}
use Rattle.field.specs.own.Table.{Table}
use Rattle.sheet.specs.Said.{RuleAt, Said}
use Rattle.finding.specs.declared.Sides.{Sides}
use Rattle.why.specs.own.Asked.{Of}
use Rattle.finding.specs.Finding.{BrokenSub, SubOfNames}

-- the concept of a node, if it is a name
abbrev pub NodeIs : Node → Option Concept → Type 0
NodeIs (node.Name c) r = r ≡ Some c
NodeIs node.Top r = r ≡ None
NodeIs (node.Not a) r = r ≡ None
NodeIs (node.And a b) r = r ≡ None
NodeIs (node.AtLeast k u a) r = r ≡ None
NodeIs (node.SelfOf u) r = r ≡ None
NodeIs (node.One a) r = r ≡ None

-- the sides of a rule, if it is `sub` with concept names
abbrev pub SidesAre : Rule → Option Sides → Type 0
SidesAre u (Some r) = SubOfNames u r.left r.right
SidesAre u None = (c d : ℕ) → ¬ (SubOfNames u c d)

-- the rule with the number k, or there is none
abbrev pub RuleFound : Said → ℕ → Option Rule → Type 0
RuleFound x k (Some u) = RuleAt x k u
RuleFound x k None = length x.rules ≤ k

-- the sides of the rule with the number k, if it is such a one and the item a breaks it in the store s, of row width W
abbrev pub BrokenIf : ℕ → Counts → Said → List ℕ → ℕ → ℕ → Option Sides → Type 0
BrokenIf W n x s k a (Some r) = BrokenSub W n x s k a r.left r.right
BrokenIf W n x s k a None = (c d : ℕ) → ¬ (BrokenSub W n x s k a c d)

-- the same of the accepted sheet with the names of the table t
abbrev pub Breaking : ℕ → List ℕ → Table → List ℕ → ℕ → ℕ → Option Sides → Type 0
Breaking W sheet t s k a r = Of sheet t (λ x. BrokenIf W t.counts x s k a r)
