-- Concept expressions, the short forms, and the expression that a rule's nodes stand for.
use Rattle.std.specs.Prelude.{List, ℕ, zero, suc}
use Rattle.store.specs.declared.Concept.{Concept}
use Rattle.store.specs.declared.Item.{Item}
use Rattle.rule.specs.declared.Node.{Node}
use Rattle.rule.specs.declared.Node.TheVariants.{Name, Top, Not, And, AtLeast, SelfOf, One}
use Rattle.rule.specs.declared.Slot.{Slot}
use Rattle.rule.specs.declared.RoleUse.{RoleUse}
use Rattle.rule.specs.Form.{node_at, node_limit}

-- a concept name; top; not C; C and D; at least n R C; self R; one a
pub data Expr : Type 0 where
  name : Concept → Expr
  top : Expr
  neg : Expr → Expr
  both : Expr → Expr → Expr
  many : ℕ → RoleUse → Expr → Expr
  own : RoleUse → Expr
  one : Item → Expr

-- the short forms
abbrev pub bot : Expr
bot = neg top

abbrev pub either : Expr → Expr → Expr
either c d = neg (both (neg c) (neg d))

abbrev pub some : RoleUse → Expr → Expr
some u c = many 1 u c

abbrev pub every : RoleUse → Expr → Expr
every u c = neg (some u (neg c))

abbrev pub at_most : ℕ → RoleUse → Expr → Expr
at_most n u c = neg (many (suc n) u c)

-- one node's expression, where f gives that of each child
abbrev pub build : (ℕ → Expr) → Node → Expr
build f (Name c) = name c
build f Top = top
build f (Not a) = neg (f a)
build f (And a b) = both (f a) (f b)
build f (AtLeast n u a) = many n u (f a)
build f (SelfOf u) = own u
build f (One a) = one a

-- the expression at node i, read down to `left` nodes deep
unfoldable pub expr_at : ℕ → List Slot → ℕ → Expr
expr_at zero ns i = top
expr_at (suc left) ns i = build (expr_at left ns) (node_at ns i)

-- the expression at node i of a rule
abbrev pub expr_of : List Slot → ℕ → Expr
expr_of ns i = expr_at node_limit ns i
