-- The examples of 000 are as it says. Assumes nothing.
use Rattle.std.specs.Prelude.{◌≡◌, refl, ◌↔◌, List, [], ◌∷◌, ℕ, zero, suc, ◌+◌, ◌≤◌, ◌<◌, length}
use Rattle.std.proofs.Common.{sym, subst, ⊎_elim, arith}
use Rattle.logic.specs.Number.{One}
use Rattle.logic.specs.Number.One.{first, later}
use Rattle.logic.specs.laws.Number.{one-cases, one_none}
use Rattle.store.specs.declared.Counts.{Counts}
use Rattle.store.specs.declared.Statement.{Statement}
use Rattle.store.specs.Cell.{Cell, DeclaredItem, Follows, Within, cell_of}
use Rattle.store.specs.Cell.Cell.{Same, In, Link}
use Rattle.store.specs.Cell.Follows.{given, same_refl, same-sym, same-trans}
use Rattle.closure.specs.Lines.{Stated}
use Rattle.closure.specs.Lines.Stated.{stated}
use Rattle.rule.specs.declared.Head.TheVariants.{Ref, Irr}
use Rattle.rule.specs.declared.RoleUse.{RoleUse}
use Rattle.rule.specs.declared.Rule.{Rule}
use Rattle.rule.specs.Second.{Second}
use Rattle.std.specs.Prelude.{None, Some}
use Rattle.rule.specs.Breaks.{Breaks}
use Rattle.rule.specs.Expr.{Expr, expr_at, expr_of}
use Rattle.rule.specs.Expr.Expr.{name, top, neg, many}
use Rattle.rule.specs.Form.{CountFits, NodeWithin, RuleWithin, UsesLater, WellFormed, node_at, root_uses, uses_below}
use Rattle.rule.specs.Meaning.{Articles, Different, HoldsOf}
use Rattle.rule.specs.Meaning.Different.{none, more}
use Rattle.paper.specs.Examples.{Examples, example1, example2, example7, named, one_article, role0, sub_at_least, sub_at_most_one}
use Rattle.paper.specs.Interpretation.{Interpretation, Entails, Model, Satisfies}
use Rattle.paper.specs.Satisfied.{ICSatisfies}
use Rattle.paper.specs.laws.Sound.{follows-satisfied}
use Rattle.paper.specs.laws.Canonical.{settled-within}
use Rattle.paper.specs.laws.TheoremA.{theorem-a}
use Rattle.paper.proofs.laws.TheoremC.{theorem-c}
use Rattle.paper.specs.laws.Told.{settled_lines}

-- ---- the rules are well formed and made of declared names

at-least-form : (k : ℕ) → 1 ≤ k → k ≤ 8 → WellFormed (sub_at_least k)
unfolding uses_below
at-least-form k lo hi = record { short = omega arith; head = (omega arith, omega arith); later = after; counts = fit; once = uses }
  where
    after : (i : ℕ) → i < 3 → UsesLater 3 i (node_at (sub_at_least k).nodes i)
    after zero l = tt
    after (suc zero) l = (omega arith, omega arith)
    after (suc (suc zero)) l = tt
    after (suc (suc (suc i))) l = absurd (omega arith)

    fit : (i : ℕ) → i < 3 → CountFits (node_at (sub_at_least k).nodes i)
    fit zero l = tt
    fit (suc zero) l = (lo, hi)
    fit (suc (suc zero)) l = tt
    fit (suc (suc (suc i))) l = absurd (omega arith)

    uses : (j : ℕ) → j < 3 → root_uses (sub_at_least k).head j + uses_below (sub_at_least k).nodes j 3 ≡ 1
    uses zero l = refl
    uses (suc zero) l = refl
    uses (suc (suc zero)) l = refl
    uses (suc (suc (suc j))) l = absurd (omega arith)

at-least-within : (m k : ℕ) → RuleWithin (named m) (sub_at_least k)
at-least-within m k = record { head = tt; nodes = inside }
  where
    inside : (i : ℕ) → i < 3 → NodeWithin (named m) (node_at (sub_at_least k).nodes i)
    inside zero l = omega arith
    inside (suc zero) l = omega arith
    inside (suc (suc zero)) l = omega arith
    inside (suc (suc (suc i))) l = absurd (omega arith)

at-most-form : WellFormed sub_at_most_one
unfolding uses_below
at-most-form = record { short = omega arith; head = (omega arith, omega arith); later = after; counts = fit; once = uses }
  where
    after : (i : ℕ) → i < 4 → UsesLater 4 i (node_at sub_at_most_one.nodes i)
    after zero l = tt
    after (suc zero) l = (omega arith, omega arith)
    after (suc (suc zero)) l = (omega arith, omega arith)
    after (suc (suc (suc zero))) l = tt
    after (suc (suc (suc (suc i)))) l = absurd (omega arith)

    fit : (i : ℕ) → i < 4 → CountFits (node_at sub_at_most_one.nodes i)
    fit zero l = tt
    fit (suc zero) l = tt
    fit (suc (suc zero)) l = (omega arith, omega arith)
    fit (suc (suc (suc zero))) l = tt
    fit (suc (suc (suc (suc i)))) l = absurd (omega arith)

    uses : (j : ℕ) → j < 4 → root_uses sub_at_most_one.head j + uses_below sub_at_most_one.nodes j 4 ≡ 1
    uses zero l = refl
    uses (suc zero) l = refl
    uses (suc (suc zero)) l = refl
    uses (suc (suc (suc zero))) l = refl
    uses (suc (suc (suc (suc j)))) l = absurd (omega arith)

at-most-within : (m : ℕ) → RuleWithin (named m) sub_at_most_one
at-most-within m = record { head = tt; nodes = inside }
  where
    inside : (i : ℕ) → i < 4 → NodeWithin (named m) (node_at sub_at_most_one.nodes i)
    inside zero l = omega arith
    inside (suc zero) l = tt
    inside (suc (suc zero)) l = omega arith
    inside (suc (suc (suc zero))) l = tt
    inside (suc (suc (suc (suc i)))) l = absurd (omega arith)

-- their expressions
abbrev first_name : Expr
first_name = name (record { 0 = 0 })

abbrev second_name : Expr
second_name = name (record { 0 = 1 })

at-least-left : (k : ℕ) → expr_of (sub_at_least k).nodes 0 ≡ first_name
unfolding expr_at
at-least-left k = refl

at-least-right : (k : ℕ) → expr_of (sub_at_least k).nodes 1 ≡ many k role0 second_name
unfolding expr_at
at-least-right k = refl

at-most-left : expr_of sub_at_most_one.nodes 0 ≡ first_name
unfolding expr_at
at-most-left = refl

at-most-right : expr_of sub_at_most_one.nodes 1 ≡ neg (many 2 role0 top)
unfolding expr_at
at-most-right = refl

-- ---- models that tell what does not follow: every number stands for itself

-- P of every statement of the list
abbrev All : (Statement → Type 0) → List Statement → Type 0
All P [] = Unit {0}
All P (x ∷ xs) = P x × All P xs

all_one : (P : Statement → Type 0) (xs : List Statement) → All P xs → {x : Statement} → One x xs → P x
all_one P [] a o = absurd (one_none o)
all_one P (y ∷ xs) a {x} o = ⊎_elim (λ e. subst P (sym e) a.0) (λ z. all_one P xs a.1 z) (one-cases o)

plain : (ℕ → ℕ → Type 0) → Type 0 → Interpretation
plain P L = record { domain = ℕ; concept = P; role = λ r d e. L; item = λ a. a }

lines-model : {n : Counts} {I : Interpretation} (lines : List Statement) → All (λ x. Satisfies n I (cell_of x)) lines → Model n (Stated lines) I
lines-model {n} {I} lines a = record { satisfies = sat }
  where
    sat : (c : Cell) → Stated lines c → Satisfies n I c
    sat c (stated o) = all_one (λ x. Satisfies n I (cell_of x)) lines a o

-- ---- Example 1

no-links : Model (named 1) (Stated example1) (plain (λ b d. Unit {0}) ⊥)
unfolding plain
no-links = lines-model example1 (record { within = (omega arith, omega arith); condition = tt }, tt)

-- one or more articles: there is an item
one_of : {C : Cell → Type 0} {n : Counts} {P : ℕ → Type 0} → Articles C n 1 P → (b : ℕ) × (DeclaredItem n b × P b)
one_of {C} {n} {P} a = go a.items a.count a.each
  where
    go : (xs : List ℕ) → length xs ≡ 1 → ((b : ℕ) → One b xs → DeclaredItem n b × P b) → (b : ℕ) × (DeclaredItem n b × P b)
    go [] e f = absurd (omega arith)
    go (y ∷ ys) e f = (y, f y first)

breaks-1 : Breaks (Follows (named 1) (Stated example1)) (named 1) (sub_at_least 1) 0 None
unfolding HoldsOf plain
breaks-1 = (omega arith, (rw (at-least-left 1) (given (stated first)), rw (at-least-right 1) (λ a. let r = one_of a in absurd (follows-satisfied no-links r.1.1.0).condition)))

ex-1 : ¬ (ICSatisfies (named 1) (Stated example1) (sub_at_least 1))
ex-1 z = (theorem-c (settled_lines (λ c s. (no-links.satisfies c s).within)) (at-least-form 1 (omega arith) (omega arith)) (at-least-within 1 1)).0 z 0 None breaks-1

-- ---- Examples 2 and 7: two linked items that do not follow to be the same

-- only item 0 is in concept 0, and all items are linked
abbrev OnlyZero : ℕ → ℕ → Type 0
OnlyZero zero d = d ≡ 0
OnlyZero (suc b) d = Unit {0}

model-2 : Model (named 3) (Stated example2) (plain OnlyZero (Unit {0}))
unfolding plain
model-2 = lines-model example2 (record { within = (omega arith, omega arith); condition = refl }, (record { within = (omega arith, omega arith, omega arith); condition = tt }, (record { within = (omega arith, omega arith, omega arith); condition = tt }, tt)))

model-7 : Model (named 3) (Stated example7) (plain OnlyZero (Unit {0}))
unfolding plain
model-7 = lines-model example7 (record { within = (omega arith, omega arith); condition = refl }, (record { within = (omega arith, omega arith, omega arith); condition = tt }, (record { within = (omega arith, omega arith, omega arith); condition = tt }, (record { within = (omega arith, omega arith); condition = tt }, (record { within = (omega arith, omega arith); condition = tt }, tt)))))

-- items 1 and 2 are two articles
two-of : {G : Cell → Type 0} {P : ℕ → Type 0} → Model (named 3) G (plain OnlyZero (Unit {0})) → P 1 → P 2 → Articles (Follows (named 3) G) (named 3) 2 P
unfolding plain
two-of {G} {P} m p q = record {
  items = 1 ∷ 2 ∷ [];
  count = refl;
  each = λ b o. ⊎_elim (λ e. at b e (omega arith, p)) (λ w. ⊎_elim (λ e. at b e (omega arith, q)) (λ v. absurd (one_none v)) (one-cases w)) (one-cases o);
  different = more (λ y o s. ⊎_elim (λ e. apart y e s) (λ v. absurd (one_none v)) (one-cases o)) (more (λ y o. absurd (one_none o)) none);
}
  where
    at : (b : ℕ) {a : ℕ} → b ≡ a → (a < 3) × P a → (b < 3) × P b
    at b e x = subst (λ (c : ℕ). (c < 3) × P c) (sym e) x

    apart : (y : ℕ) → y ≡ 2 → ¬ (Follows (named 3) G (Same 1 y))
    apart y e s = omega (arith, (follows-satisfied m s).condition)

breaks-2 : Breaks (Follows (named 3) (Stated example2)) (named 3) sub_at_most_one 0 None
unfolding HoldsOf
breaks-2 = (omega arith, (rw at-most-left (given (stated first)), rw at-most-right (λ f. f (two-of model-2 (given (stated (later first)), tt) (given (stated (later (later first))), tt)))))

ex-2 : ¬ (ICSatisfies (named 3) (Stated example2) sub_at_most_one)
ex-2 z = (theorem-c (settled_lines (λ c s. (model-2.satisfies c s).within)) at-most-form (at-most-within 3)).0 z 0 None breaks-2

-- only item 0 can break the rule of Example 7, and it does not
none-7 : (x : ℕ) (y : Second) → ¬ (Breaks (Follows (named 3) (Stated example7)) (named 3) (sub_at_least 2) x y)
unfolding HoldsOf plain
none-7 x (Some y) b = b.2
none-7 x None (l, (a, b)) = rw (at-least-right 2) at b (subst (λ (z : ℕ). Articles F (named 3) 2 (λ d. F (Link 0 z d) × F (In d 1))) (sym zero-only) enough)
  where
    F : Cell → Type 0
    F = Follows (named 3) (Stated example7)

    zero-only : x ≡ 0
    zero-only = (follows-satisfied model-7 (rw (at-least-left 2) at a)).condition

    enough : Articles F (named 3) 2 (λ d. F (Link 0 0 d) × F (In d 1))
    enough = two-of model-7 (given (stated (later first)), given (stated (later (later (later first))))) (given (stated (later (later first))), given (stated (later (later (later (later first))))))

ex-7 : ICSatisfies (named 3) (Stated example7) (sub_at_least 2)
ex-7 = (theorem-c (settled_lines (λ c s. (model-7.satisfies c s).within)) (at-least-form 2 (omega arith) (omega arith)) (at-least-within 3 2)).1 none-7

-- ---- Example 7 with d1 same as d2

-- item 0 stands for itself, and all others for one element; item 0 is linked to that element and to no other
abbrev merged : ℕ → ℕ
merged zero = 0
merged (suc a) = 1

folded : Interpretation
folded = record { domain = ℕ; concept = λ b d. Unit {0}; role = λ r d e. (d ≡ 0) × (e ≡ 1); item = merged }

model-same : Model (named 3) (Stated (one_article ∷ example7)) folded
unfolding folded
model-same = lines-model (one_article ∷ example7) (
  record { within = (omega arith, omega arith); condition = refl },
  (
    record { within = (omega arith, omega arith); condition = tt },
    (
      record { within = (omega arith, omega arith, omega arith); condition = (refl, refl) },
      (
        record { within = (omega arith, omega arith, omega arith); condition = (refl, refl) },
        (
          record { within = (omega arith, omega arith); condition = tt },
          (record { within = (omega arith, omega arith); condition = tt }, tt),
        ),
      ),
    ),
  ),
)

-- what item 0 is linked to is item 1 or item 2, and these are the same
breaks-same : Breaks (Follows (named 3) (Stated (one_article ∷ example7))) (named 3) (sub_at_least 2) 0 None
unfolding HoldsOf folded
breaks-same = (omega arith, (rw (at-least-left 2) (given (stated (later first))), rw (at-least-right 2) (λ a. pair a.items a.count (λ b o. a.each b o) a.different)))
  where
    F : Cell → Type 0
    F = Follows (named 3) (Stated (one_article ∷ example7))

    linked : (b : ℕ) → F (Link 0 0 b) → merged b ≡ 1
    linked b f = (follows-satisfied model-same f).condition.1

    -- an item that is linked is the same as item 1
    to_one : (b : ℕ) → b < 3 → merged b ≡ 1 → F (Same 1 b)
    to_one zero l e = absurd (omega arith)
    to_one (suc zero) l e = same_refl l
    to_one (suc (suc zero)) l e = given (stated first)
    to_one (suc (suc (suc b))) l e = absurd (omega arith)

    pair : (xs : List ℕ) → length xs ≡ 2 → ((b : ℕ) → One b xs → (b < 3) × (F (Link 0 0 b) × F (In b 1))) → ¬ (Different F xs)
    pair [] e f d = omega arith
    pair (x ∷ []) e f d = omega arith
    pair (x ∷ y ∷ xs) e f (more apart d) =
        let p = f x first in
        let q = f y (later first) in
        apart y first (same-trans (same-sym (to_one x p.0 (linked x p.1.0))) (to_one y q.0 (linked y q.1.0)))

ex-7-same : ¬ (ICSatisfies (named 3) (Stated (one_article ∷ example7)) (sub_at_least 2))
ex-7-same z =
    (theorem-c (settled_lines (λ c s. (model-same.satisfies c s).within)) (at-least-form 2 (omega arith) (omega arith)) (at-least-within 3 2)).0 z 0 None breaks-same

-- ---- Example 10

module _ {n : Counts} {lines : List Statement} (w : (c : Cell) → Stated lines c → Within n c) where
  abbrev F : Cell → Type 0
  F = Follows n (Stated lines)

  abbrev K : Cell → Type 1
  K = Entails n (Stated lines)

  known : (c : Cell) → F c ↔ K c
  known = theorem-a (settled_lines w)

  -- a linked producer is one article
  one-linked : (x y : ℕ) → F (Link 0 x y) → F (In y 1) → Articles F n 1 (λ b. F (Link 0 x b) × F (In b 1))
  one-linked x y a b = record {
    items = y ∷ [];
    count = refl;
    each = λ d o. ⊎_elim (λ e. subst (λ (z : ℕ). DeclaredItem n z × (F (Link 0 x z) × F (In z 1))) (sym e) ((settled-within (settled_lines w) {c = In y 1} b).0, (a, b))) (λ v. absurd (one_none v)) (one-cases o);
    different = more (λ z o. absurd (one_none o)) none;
  }

  query-10 : (x : ℕ) → Breaks F n (sub_at_least 1) x None ↔ (K (In x 0) × ¬ ((y : ℕ) × K (Link 0 x y) × K (In y 1)))
  unfolding HoldsOf
  query-10 x = (
    λ (l, (a, b)). ((known (In x 0)).0 (rw (at-least-left 1) at a), λ (y, p, q). rw (at-least-right 1) at b (one-linked x y ((known (Link 0 x y)).1 p) ((known (In y 1)).1 q))),
    λ (p, f). ((settled-within (settled_lines w) {c = In x 0} ((known (In x 0)).1 p)).0, (rw (at-least-left 1) ((known (In x 0)).1 p), rw (at-least-right 1) (λ a. let r = one_of a in f (r.0, (known (Link 0 x r.0)).0 r.1.1.0, (known (In r.0 1)).0 r.1.1.1)))),
  )

-- ---- no items

none_at_all : {n : Counts} {G : Cell → Type 0} {u v : Rule} {r : RoleUse} → n.items ≡ 0 → u.head ≡ Ref r → v.head ≡ Irr r → ICSatisfies n G u × ICSatisfies n G v
none_at_all e p q = (
  record { everywhere = λ I m. rw p (λ x l. absurd (omega arith)) },
  record { everywhere = λ I m. rw q (λ x l. absurd (omega arith)) },
)

-- all of them
pub examples : Examples
examples = record { example-1 = ex-1; example-2 = ex-2; example-7 = ex-7; example-7-same = ex-7-same; example-10 = query-10; no_items = none_at_all }
