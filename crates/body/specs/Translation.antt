-- The query of a rule, in document 01's order of items and variables. x is variable 0, y is 1 where there is one; further variables take the next number.
use Rattle.std.specs.Prelude.{Bool, true, false, List, [], ◌∷◌, ℕ, zero, suc, ◌+◌, ◌*◌, take}
use Rattle.rule.specs.declared.Head.{Head}
use Rattle.rule.specs.declared.Head.TheVariants.{Sub, RoleSub, Chain, Ref, Irr, Dis, In, Rel, NoRel, Same, Differ}
use Rattle.rule.specs.declared.Rule.{Rule}
use Rattle.rule.specs.declared.RoleUse.{RoleUse}
use Rattle.rule.specs.declared.Slot.{Slot}
use Rattle.rule.specs.Expr.{Expr, expr_of}
use Rattle.rule.specs.Expr.Expr.{name, top, neg, both, many, own, one}
use Rattle.body.specs.Body.{first_item, Atom, is_a, rel, eq, Body, end, atom, not, ◌⊕◌}

-- inverse roles swap the terms
abbrev pub link_way : Bool → ℕ → ℕ → ℕ → Atom
link_way false r s t = rel r s t
link_way true r s t = rel r t s

abbrev pub link : RoleUse → ℕ → ℕ → Atom
link u s t = link_way u.inverse u.role.0 s t

-- how many new variables an expression takes
abbrev pub variables : Expr → ℕ
variables (name c) = 0
variables top = 0
variables (neg c) = variables c
variables (both c d) = variables c + variables d
variables (many n u c) = n * (variables c + 1)
variables (own u) = 0
variables (one a) = 0

-- n times: a new variable, its role atom, then C of it. f is the translation of C, and each time takes k variables.
abbrev pub turns : (ℕ → ℕ → Body) → RoleUse → ℕ → ℕ → ℕ → ℕ → Body
turns f u k zero t v = end
turns f u k (suc n) t v = atom (link u t v) (f v (v + 1) ⊕ turns f u k n t (v + k))

-- the n new variables
abbrev pub news : ℕ → ℕ → ℕ → List ℕ
news k zero v = []
news k (suc n) v = v ∷ news k n (v + k)

-- an equality inside a not, of y with each of the list
abbrev pub apart : ℕ → List ℕ → Body
apart y [] = end
apart y (z ∷ zs) = not (atom (eq y z) end) (apart y zs)

-- for i < j in order (1,2), (1,3).., an equality inside a not
abbrev pub pairs : List ℕ → Body
pairs [] = end
pairs (y ∷ ys) = apart y ys ⊕ pairs ys

-- C of the term t, with v the next free variable
abbrev pub of_expr : Expr → ℕ → ℕ → Body
of_expr (name c) t v = atom (is_a c.0 t) end
of_expr top t v = end
of_expr (neg c) t v = not (of_expr c t v) end
of_expr (both c d) t v = of_expr c t v ⊕ of_expr d t (v + variables c)
of_expr (many n u c) t v = turns (of_expr c) u (variables c + 1) n t v ⊕ pairs (news (variables c + 1) n v)
of_expr (own u) t v = atom (link u t t) end
of_expr (one a) t v = atom (eq t (first_item + a.0)) end

-- the path in order, from the term t to y, with v the next free variable
abbrev pub path : List RoleUse → ℕ → ℕ → Body
path [] t v = end
path (r ∷ []) t v = atom (link r t 1) end
path (r ∷ s ∷ rs) t v = atom (link r t v) (path (s ∷ rs) v (v + 1))

-- one atom inside a not
abbrev pub without : Atom → Body
without a = not (atom a end) end

-- the number of answer variables, 0 to 2
abbrev pub answers_of : Head → ℕ
answers_of (Sub c d) = 1
answers_of (RoleSub r s) = 2
answers_of (Chain k r1 r2 r3 r4 r) = 2
answers_of (Ref r) = 1
answers_of (Irr r) = 1
answers_of (Dis r s) = 2
answers_of (In c a) = 0
answers_of (Rel r a b) = 0
answers_of (NoRel r a b) = 0
answers_of (Same a b) = 0
answers_of (Differ a b) = 0

-- document 01's table, its last column
unfoldable pub body_of : List Slot → Head → Body
body_of ns (Sub c d) = of_expr (expr_of ns c) 0 1 ⊕ not (of_expr (expr_of ns d) 0 (1 + variables (expr_of ns c))) end
body_of ns (RoleSub r s) = atom (link r 0 1) (without (link s 0 1))
body_of ns (Chain k r1 r2 r3 r4 r) = path (take k (r1 ∷ r2 ∷ r3 ∷ r4 ∷ [])) 0 2 ⊕ without (link r 0 1)
body_of ns (Ref r) = without (link r 0 0)
body_of ns (Irr r) = atom (link r 0 0) end
body_of ns (Dis r s) = atom (link r 0 1) (atom (link s 0 1) end)
body_of ns (In c a) = not (of_expr (expr_of ns c) (first_item + a.0) 0) end
body_of ns (Rel r a b) = without (link r (first_item + a.0) (first_item + b.0))
body_of ns (NoRel r a b) = atom (link r (first_item + a.0) (first_item + b.0)) end
body_of ns (Same a b) = without (eq (first_item + a.0) (first_item + b.0))
body_of ns (Differ a b) = atom (eq (first_item + a.0) (first_item + b.0)) end

-- the query of a rule
abbrev pub query_of : Rule → Body
query_of u = body_of u.nodes u.head
