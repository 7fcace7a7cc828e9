-- The expressions of the rule `sub C atleast k R D`. Assumes nothing.
use Rattle.std.specs.Prelude.{◌≡◌, false, ℕ}
use Rattle.std.proofs.Common.{ap, ◌∙◌}
use Rattle.rule.specs.declared.RoleUse.{RoleUse}
use Rattle.rule.specs.declared.Rule.{Rule}
use Rattle.rule.specs.Expr.{build, expr_at, expr_of}
use Rattle.rule.specs.Expr.Expr.{name, many}
use Rattle.rule.specs.laws.Tree.{expr_at-suc}
use Rattle.examples.specs.Examples.{IsAtLeast}

abbrev pub role_r : RoleUse
role_r = record { role = record { 0 = 0 }; inverse = false }

pub expr_left : (k : ℕ) (u : Rule) → IsAtLeast k u → expr_of u.nodes 0 ≡ name (record { 0 = 0 })
expr_left k u i = expr_at-suc 31 u.nodes 0 ∙ ap (build (expr_at 31 u.nodes)) i.left

pub expr-right : (k : ℕ) (u : Rule) → IsAtLeast k u → expr_of u.nodes 1 ≡ many k role_r (name (record { 0 = 1 }))
expr-right k u i =
    expr_at-suc 31 u.nodes 1 ∙ ap (build (expr_at 31 u.nodes)) i.right
    ∙ ap (many k role_r) (expr_at-suc 30 u.nodes 2 ∙ ap (build (expr_at 30 u.nodes)) i.filler)
