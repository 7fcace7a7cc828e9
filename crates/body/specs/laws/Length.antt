-- Lengths of queries: they are document 01's. Assumes nothing.
use Rattle.std.specs.Prelude.{◌≡◌, refl, List, [], ◌∷◌, ℕ, zero, suc, ◌+◌, ◌*◌, ◌-◌, ◌/◌, ◌≤◌, length, take}
use Rattle.std.proofs.Common.{sym, ap, ap₂, ◌∙◌, subst, suc-mul, mul-suc, mul-le-mul_left, arith, length-take}
use Rattle.rule.specs.declared.Head.{Head}
use Rattle.rule.specs.declared.Head.TheVariants.{Sub, RoleSub, Chain, Ref, Irr, Dis, In, Rel, NoRel, Same, Differ}
use Rattle.rule.specs.declared.Slot.{Slot}
use Rattle.rule.specs.Form.{HeadFits}
use Rattle.rule.specs.declared.RoleUse.{RoleUse}
use Rattle.rule.specs.Expr.{Expr, expr_of}
use Rattle.rule.specs.Expr.Expr.{name, top, neg, both, many, own, one}
use Rattle.body.specs.Body.{first_item, Body, end, not, ◌⊕◌, size}
use Rattle.body.specs.Translation.{link, variables, turns, news, apart, pairs, of_expr, path, without, body_of}
use Rattle.body.specs.Length.{length_of, head_length}
use Rattle.body.specs.laws.Body.{size-⊕}

size-apart : (y : ℕ) (zs : List ℕ) → size (apart y zs) ≡ 3 * length zs
size-apart y [] = refl
size-apart y (z ∷ zs) = let e = size-apart y zs in omega arith

tri : ℕ → ℕ
tri zero = 0
tri (suc n) = n + tri n

tri-is : (n : ℕ) → n * (n - 1) ≡ 2 * tri n
unfolding tri
tri-is zero = refl
tri-is (suc zero) = refl
tri-is (suc (suc n)) =
    let e : suc n * n ≡ 2 * tri (suc n) = subst (λ m. suc n * m ≡ 2 * tri (suc n)) (sub-suc n) (tri-is (suc n)) in
    let f : suc (suc n) * (suc (suc n) - 1) ≡ suc (suc n) * suc n = ap (λ m. suc (suc n) * m) (sub-suc (suc n)) in
    omega (arith, e, f, suc-mul (suc n) (suc n), mul-suc (suc n) n)
  where
    sub-suc : (m : ℕ) → suc m - 1 ≡ m
    sub-suc m = omega arith

thrice : (n : ℕ) → 3 * (n * (n - 1)) / 2 ≡ 3 * tri n
thrice n = ap (λ m. 3 * m / 2) (tri-is n) ∙ omega arith

length-news : (u n v : ℕ) → length (news u n v) ≡ n
length-news u zero v = refl
length-news u (suc n) v = ap suc (length-news u n (v + u))

size-pairs : (ys : List ℕ) → size (pairs ys) ≡ 3 * tri (length ys)
unfolding tri
size-pairs [] = refl
size-pairs (y ∷ ys) = let e = size-pairs ys in omega (arith, size-⊕ (apart y ys) (pairs ys), size-apart y ys)

size-turns : (c : ℕ → ℕ → Body) (l : ℕ) → ((t v : ℕ) → size (c t v) ≡ l) → (R : RoleUse) (u n t v : ℕ) → size (turns c R u n t v) ≡ n * (1 + l)
size-turns c l ih R u zero t v = omega arith
size-turns c l ih R u (suc n) t v = let e = size-turns c l ih R u n t (v + u) in omega (arith, size-⊕ (c v (v + 1)) (turns c R u n t (v + u)), ih v (v + 1), suc-mul n (1 + l))

pub size-expr : (e : Expr) (t v : ℕ) → size (of_expr e t v) ≡ length_of e
size-expr (name A) t v = refl
size-expr top t v = refl
size-expr (neg C) t v = let e = size-expr C t v in omega arith
size-expr (both C D) t v = size-⊕ (of_expr C t v) (of_expr D t (v + variables C)) ∙ ap₂ ◌+◌ (size-expr C t v) (size-expr D t (v + variables C))
size-expr (many n R C) t v =
    size-⊕ (turns (of_expr C) R (variables C + 1) n t v) (pairs (news (variables C + 1) n v))
    ∙ ap₂ ◌+◌ (size-turns (of_expr C) (length_of C) (size-expr C) R (variables C + 1) n t v) (size-pairs (news (variables C + 1) n v) ∙ ap (λ m. 3 * tri m) (length-news (variables C + 1) n v) ∙ sym (thrice n))
size-expr (own R) t v = refl
size-expr (one a) t v = refl

-- a query of at most 512 items has too few variables to reach the items' terms
pub variables-le : (e : Expr) → variables e ≤ length_of e
variables-le (name A) = omega arith
variables-le top = omega arith
variables-le (neg C) = let h = variables-le C in omega arith
variables-le (both C D) = let h = variables-le C in let k = variables-le D in omega arith
variables-le (many n R C) = let h : variables C + 1 ≤ 1 + length_of C = (let k = variables-le C in omega arith) in omega (arith, mul-le-mul_left n h)
variables-le (own R) = omega arith
variables-le (one a) = omega arith

pub size-apart-news : (y u n z : ℕ) → size (apart y (news u n z)) ≡ 3 * n
size-apart-news y u n z = size-apart y (news u n z) ∙ ap (λ m. 3 * m) (length-news u n z)

pub size-pairs-news : (u n v : ℕ) → size (pairs (news u n v)) ≡ 3 * (n * (n - 1)) / 2
size-pairs-news u n v = size-pairs (news u n v) ∙ ap (λ m. 3 * tri m) (length-news u n v) ∙ sym (thrice n)

pub size-turns-expr : (C : Expr) (R : RoleUse) (u n t v : ℕ) → size (turns (of_expr C) R u n t v) ≡ n * (1 + length_of C)
size-turns-expr C R u n t v = size-turns (of_expr C) (length_of C) (size-expr C) R u n t v

-- ---- the length of a rule's query

pub size-path : (r : RoleUse) (rs : List RoleUse) (t v : ℕ) → size (path (r ∷ rs) t v) ≡ 1 + length rs
size-path r [] t v = refl
size-path r (q ∷ rs) t v = let e = size-path q rs v (v + 1) in omega arith

chain-size : (k : ℕ) (r1 r2 r3 r4 r : RoleUse) → 2 ≤ k → k ≤ 4 → size (path (take k (r1 ∷ r2 ∷ r3 ∷ r4 ∷ [])) 0 2 ⊕ without (link r 0 1)) ≡ k + 3
chain-size zero r1 r2 r3 r4 r l h = absurd (omega arith)
chain-size (suc k) r1 r2 r3 r4 r l h =
    let rs : List RoleUse = r2 ∷ r3 ∷ r4 ∷ [] in
    omega (arith, size-⊕ (path (r1 ∷ take k rs) 0 2) (without (link r 0 1)), size-path r1 (take k rs) 0 2, length-take k rs)

-- the number of items of a rule's query is document 01's length
pub head-length : (n : ℕ) (ns : List Slot) (h : Head) → HeadFits n h → size (body_of ns h) ≡ head_length ns h
unfolding body_of head_length
head-length n ns (Sub c d) f =
    let C : Expr = expr_of ns c in
    let D : Expr = expr_of ns d in
    omega (arith, size-⊕ (of_expr C 0 1) (not (of_expr D 0 (1 + variables C)) end), size-expr C 0 1, size-expr D 0 (1 + variables C))
head-length n ns (RoleSub r s) f = refl
head-length n ns (Chain k r1 r2 r3 r4 r) f = chain-size k r1 r2 r3 r4 r f.0 f.1
head-length n ns (Ref r) f = refl
head-length n ns (Irr r) f = refl
head-length n ns (Dis r s) f = refl
head-length n ns (In c a) f = omega (arith, size-expr (expr_of ns c) (first_item + a.0) 0)
head-length n ns (Rel r a b) f = refl
head-length n ns (NoRel r a b) f = refl
head-length n ns (Same a b) f = refl
head-length n ns (Differ a b) f = refl
