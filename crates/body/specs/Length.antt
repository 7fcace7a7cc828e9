-- Lengths of queries in items, as document 01 has them.
use Rattle.std.specs.Prelude.{List, ℕ, ◌+◌, ◌*◌, ◌-◌, ◌/◌}
use Rattle.rule.specs.declared.Head.{Head}
use Rattle.rule.specs.declared.Head.TheVariants.{Sub, RoleSub, Chain, Ref, Irr, Dis, In, Rel, NoRel, Same, Differ}
use Rattle.rule.specs.declared.Slot.{Slot}
use Rattle.rule.specs.Expr.{Expr, expr_of}
use Rattle.rule.specs.Expr.Expr.{name, top, neg, both, many, own, one}

-- name, self, one: 1; top: 0; not C: 2 + C; and: the sum; at least n: n(1 + C) + 3n(n−1)/2
abbrev pub length_of : Expr → ℕ
length_of (name c) = 1
length_of top = 0
length_of (neg c) = 2 + length_of c
length_of (both c d) = length_of c + length_of d
length_of (many n u c) = n * (1 + length_of c) + 3 * (n * (n - 1)) / 2
length_of (own u) = 1
length_of (one a) = 1

-- sub: C + 2 + D; the others as their queries are in document 01's table
unfoldable pub head_length : List Slot → Head → ℕ
head_length ns (Sub c d) = length_of (expr_of ns c) + 2 + length_of (expr_of ns d)
head_length ns (RoleSub r s) = 4
head_length ns (Chain k r1 r2 r3 r4 r) = k + 3
head_length ns (Ref r) = 3
head_length ns (Irr r) = 1
head_length ns (Dis r s) = 2
head_length ns (In c a) = 2 + length_of (expr_of ns c)
head_length ns (Rel r a b) = 3
head_length ns (NoRel r a b) = 1
head_length ns (Same a b) = 3
head_length ns (Differ a b) = 1

-- the most items of a query
abbrev pub item_limit : ℕ
item_limit = 512
