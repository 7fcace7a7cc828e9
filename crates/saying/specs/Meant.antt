-- The rule that a line means, said of expressions and not of nodes: document 01's table of rules, a line a rule word.
use Rattle.std.specs.Prelude.{List, [], ◌∷◌, map, ◌-◌, length, take}
use Rattle.store.specs.declared.Item.{Item}
use Rattle.rule.specs.declared.Head.{Head}
use Rattle.rule.specs.declared.Head.TheVariants as head
use Rattle.rule.specs.declared.RoleUse.{RoleUse}
use Rattle.rule.specs.declared.Rule.{Rule}
use Rattle.rule.specs.declared.Slot.{Slot}
use Rattle.rule.specs.Expr.{Expr, expr_of}
use Rattle.field.specs.declared.RuleWord.{RuleWord}
use Rattle.field.specs.declared.RuleWord.TheVariants as rule
use Rattle.field.specs.Names.{Names}
use Rattle.field.specs.Words.{Field, at}
use Rattle.saying.specs.Read.{read_expr}
use Rattle.stated.specs.Stated.{item_of, role_use_of}

-- a rule as it is meant: its word with its expressions, roles and items; of a chain the path, and the last role
pub data Meant : Type 0 where
  sub : Expr → Expr → Meant
  rsub : RoleUse → RoleUse → Meant
  chain : List RoleUse → RoleUse → Meant
  ref : RoleUse → Meant
  irr : RoleUse → Meant
  dis : RoleUse → RoleUse → Meant
  isin : Expr → Item → Meant
  rel : RoleUse → Item → Item → Meant
  norel : RoleUse → Item → Item → Meant
  same : Item → Item → Meant
  differ : Item → Item → Meant

-- what a head over nodes means: at each root the expression of its node
abbrev pub head_meaning : List Slot → Head → Meant
head_meaning ns (head.Sub c d) = sub (expr_of ns c) (expr_of ns d)
head_meaning ns (head.RoleSub r s) = rsub r s
head_meaning ns (head.Chain k r1 r2 r3 r4 r) = chain (take k (r1 ∷ r2 ∷ r3 ∷ r4 ∷ [])) r
head_meaning ns (head.Ref r) = ref r
head_meaning ns (head.Irr r) = irr r
head_meaning ns (head.Dis r s) = dis r s
head_meaning ns (head.In c a) = isin (expr_of ns c) a
head_meaning ns (head.Rel r a b) = rel r a b
head_meaning ns (head.NoRel r a b) = norel r a b
head_meaning ns (head.Same a b) = same a b
head_meaning ns (head.Differ a b) = differ a b

-- what a rule by number means
abbrev pub meaning_of : Rule → Meant
meaning_of u = head_meaning u.nodes u.head

-- what the fields after the rule word mean, in their order
abbrev pub meant_by : Names → RuleWord → List Field → Meant
meant_by n rule.Sub fs = sub (read_expr n fs).expr (read_expr n (read_expr n fs).rest).expr
meant_by n rule.RoleSub fs = rsub (role_use_of n (at 0 fs)) (role_use_of n (at 1 fs))
meant_by n rule.Chain fs = chain (map (role_use_of n) (take (length fs - 1) fs)) (role_use_of n (at (length fs - 1) fs))
meant_by n rule.Ref fs = ref (role_use_of n (at 0 fs))
meant_by n rule.Irr fs = irr (role_use_of n (at 0 fs))
meant_by n rule.Dis fs = dis (role_use_of n (at 0 fs)) (role_use_of n (at 1 fs))
meant_by n rule.In fs = isin (read_expr n fs).expr (item_of n (at 0 (read_expr n fs).rest))
meant_by n rule.Rel fs = rel (role_use_of n (at 0 fs)) (item_of n (at 1 fs)) (item_of n (at 2 fs))
meant_by n rule.NoRel fs = norel (role_use_of n (at 0 fs)) (item_of n (at 1 fs)) (item_of n (at 2 fs))
meant_by n rule.Same fs = same (item_of n (at 0 fs)) (item_of n (at 1 fs))
meant_by n rule.Differ fs = differ (item_of n (at 0 fs)) (item_of n (at 1 fs))
