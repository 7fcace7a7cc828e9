-- The examples about rules. Assumes nothing.
use Rattle.std.specs.Prelude.{◌≡◌, ◌⊎◌, Bool, true, false, List, [], ◌∷◌, length}
use Rattle.std.proofs.Math.Path.{refl, sym, ap₂}
use Rattle.std.proofs.Common.{◌∙◌, subst, true≢false}
use Rattle.std.proofs.Math.Logic.{inl, inr, ⊎_elim}
use Prim.Native.Nat.{ℕ, zero, suc, ◌≤◌, ◌<◌}
use native.Mathlib.Omega.{arith}
use Rattle.logic.specs.Number.{One, Number}
use Rattle.logic.specs.Number.One.{first, later}
use Rattle.logic.specs.Number.Distinct.{none as Distinct-none, more as Distinct-more}
use Rattle.logic.specs.laws.Number.{one-cases, one_none, number-unique, number-none}
use Rattle.store.specs.declared.Counts.{Counts}
use Rattle.store.specs.declared.Statement.{Statement}
use Rattle.store.specs.Cell.{Cell, Obeys, cell_of, turn, DeclaredItem}
use Rattle.store.specs.Cell.Cell.{Same, Under, RoleUnder, In, Link}
use Rattle.store.specs.Cell.Follows.{given}
use Rattle.store.specs.Layout.{Holds}
use Rattle.store.specs.Keeps.{Keeps}
use Rattle.closure.specs.Lines.{Stated}
use Rattle.closure.specs.Lines.Stated.{stated}
use Rattle.store.specs.laws.Least.{least}
use Rattle.rule.specs.declared.Finding.{Finding}
use Rattle.rule.specs.declared.Rule.{Rule}
use Rattle.rule.specs.Second.{Second}
use Rattle.std.specs.Prelude.{None, Some}
use Rattle.rule.specs.Breaks.{Breaks}
use Rattle.rule.specs.Findings.{Findings}
use Rattle.rule.specs.Meaning.{HoldsOf, Articles, Different, LinkedWay}
use Rattle.rule.specs.Meaning.Different.{none, more}
use Rattle.rule.specs.laws.Findings.{findings-number}
use Rattle.examples.specs.laws.AtLeast.{expr_left, expr-right}
use Rattle.examples.specs.Examples.{IsRef, IsAtLeast, three_items, two_links, same_links}

-- ---- ref

module _ (W : ℕ) (n : Counts) (s : List ℕ) (u : Rule) (r : IsRef u) where
  -- a place where `ref` is broken is a declared item alone
  ref-breaks : (x : ℕ) (t : Second) → Breaks (Holds W n s) n u x t → DeclaredItem n x × (t ≡ None)
  ref-breaks x None b = (b.0, refl)
  ref-breaks x (Some y) b = absurd (rw r.head at b.2)

  -- the item 0 alone
  OnlyZero : n.items ≡ 1 → ((q a b : ℕ) → ¬ (Holds W n s (Link q a b))) → Number (λ (p : ℕ × Second). Breaks (Holds W n s) n u p.0 p.1) 1
  OnlyZero e none-linked = record {
    all = (0, None) ∷ [];
    distinct = Distinct-more one_none Distinct-none;
    sound = λ p x. subst (λ (q : ℕ × Second). Breaks (Holds W n s) n u q.0 q.1) (sym (⊎_elim (λ q. q) (λ y. absurd (one_none y)) (one-cases x))) here;
    whole = λ p b. let h = ref-breaks p.0 p.1 b in subst (λ (q : ℕ × Second). One q ((0, None) ∷ [])) (sym (ap₂ {C = ℕ × Second} (λ x t. (x, t)) (omega (arith, h.0)) h.1)) first;
    count = refl;
  }
    where
      way : (b : Bool) → ¬ (LinkedWay (Holds W n s) b r.role.role.0 0 0)
      way false x = none-linked _ _ _ x
      way true x = none-linked _ _ _ x

      here : Breaks (Holds W n s) n u 0 None
      here = (omega arith, rw r.head (way r.role.inverse))

pub ref-none : {W : ℕ} {n : Counts} {s : List ℕ} {k : ℕ} {u : Rule} {fs : List Finding} → n.items ≡ 0 → IsRef u → Findings (Holds W n s) n k u fs → length fs ≡ 0
ref-none {W} {n} {s} {u = u} e r f = number-unique (findings-number f) (number-none (λ p b. omega (arith, (ref-breaks W n s u r p.0 p.1 b).0)))

pub ref-one : {W : ℕ} {n : Counts} {s : List ℕ} {k : ℕ} {u : Rule} {fs : List Finding} → n.items ≡ 1 → ((r a b : ℕ) → ¬ (Holds W n s (Link r a b))) → IsRef u
    → Findings (Holds W n s) n k u fs → length fs ≡ 1
ref-one {W} {n} {s} {u = u} e l r f = number-unique (findings-number f) (OnlyZero W n s u r e l)

-- ---- at least 2: the cells that follow, where d2 is of the class `two`, 1 or 2

-- the class of an item
class : ℕ → ℕ → ℕ
class two zero = 0
class two (suc zero) = 1
class two (suc (suc x)) = two

-- the cells that there are
Model : ℕ → Cell → Type 0
Model two (Same a b) = (a < 3) × (b < 3) × (class two a ≡ class two b)
Model two (Under a b) = (a < 2) × (a ≡ b)
Model two (RoleUnder r v q) = (r < 1) × (r ≡ q) × (v ≡ false)
Model two (In a c) = (a < 3) × (((a ≡ 0) × (c ≡ 0)) ⊎ ((0 < a) × (c ≡ 1)))
Model two (Link r a b) = (r ≡ 0) × (a ≡ 0) × (0 < b) × (b < 3)

module _ (two : ℕ) (lo : 1 ≤ two) where
  -- c is an article of its own
  zero-class : (a b : ℕ) → class two a ≡ class two b → a ≡ 0 → b ≡ 0
  unfolding class
  zero-class a zero e z = refl
  zero-class zero (suc zero) e z = absurd (omega arith)
  zero-class zero (suc (suc b)) e z = absurd (omega arith)
  zero-class (suc a) (suc b) e z = absurd (omega arith)

  pos-class : (a b : ℕ) → class two a ≡ class two b → 0 < a → 0 < b
  pos-class a zero e h = absurd (omega (arith, zero-class 0 a (sym e) refl))
  pos-class a (suc b) e h = omega arith

  model-obeys : Obeys three_items (Model two)
  unfolding Model
  model-obeys = record {
    same_refl = λ h. (h, h, refl);
    same-sym = λ x. (x.1, x.0, sym x.2);
    same-trans = λ x y. (x.0, y.1, x.2 ∙ y.2);
    under-refl = λ h. (h, refl);
    under-trans = λ x y. (x.0, x.1 ∙ y.1);
    role-refl = λ h. (h, refl, refl);
    role-trans = λ x y. (x.0, x.1 ∙ y.1, ap₂ turn x.2 y.2);
    in-under = λ {a} {b} {c} x y. (x.0, ⊎_elim (λ z. inl (z.0, sym y.1 ∙ z.1)) (λ z. inr (z.0, sym y.1 ∙ z.1)) x.1);
    in-same = λ {a} {b} {c} x y. (x.1, ⊎_elim (λ z. inl (zero-class a b x.2 z.0, z.1)) (λ z. inr (pos-class a b x.2 z.0, z.1)) y.1);
    link-under = λ x y. (sym y.1 ∙ x.0, x.1, x.2, x.3);
    link-inverse = λ x y. absurd (true≢false y.2);
    link-same = λ {r} {a} {a'} {b} {b'} x y z. (z.0, zero-class a a' x.2 z.1, pos-class b b' y.2 z.2, y.1);
  }

-- ---- at least 2: the rule

module _ (W : ℕ) (two : ℕ) (lo : 1 ≤ two) (lines : List Statement) (inside : (c : Cell) → Stated lines c → Model two c) (s : List ℕ) (k : Keeps W three_items (Stated lines) s) (u : Rule) (i : IsAtLeast 2 u) where
  -- whatever holds is in the model
  in-model : (c : Cell) → Holds W three_items s c → Model two c
  in-model c x = least (model-obeys two lo) inside (k.sound c x)

  -- only c is in C
  left-zero : (x : ℕ) → Holds W three_items s (In x 0) → x ≡ 0
  unfolding Model
  left-zero x h = ⊎_elim (λ z. z.0) (λ z. absurd (omega (arith, z.1))) (in-model (In x 0) h).1

  -- a place where the rule is broken is c alone
  breaks-zero : (x : ℕ) (t : Second) → Breaks (Holds W three_items s) three_items u x t → (x ≡ 0) × (t ≡ None)
  unfolding HoldsOf
  breaks-zero x None b = let h = rw i.head at b.1 in (left-zero x (rw (expr_left 2 u i) at h.0), refl)
  breaks-zero x (Some y) b = absurd (rw i.head at b.2)

  -- what the rule asks of c
  asks : Breaks (Holds W three_items s) three_items u 0 None → ¬ (Articles (Holds W three_items s) three_items 2 (λ b. Holds W three_items s (Link 0 0 b) × Holds W three_items s (In b 1)))
  unfolding HoldsOf
  asks b a = rw (expr-right 2 u i) at (rw i.head at b.1).1 a

  broken : Holds W three_items s (In 0 0) → ¬ (Articles (Holds W three_items s) three_items 2 (λ b. Holds W three_items s (Link 0 0 b) × Holds W three_items s (In b 1)))
      → Breaks (Holds W three_items s) three_items u 0 None
  unfolding HoldsOf
  broken h n = (omega arith, rw i.head (rw (expr_left 2 u i) h, rw (expr-right 2 u i) n))

-- ---- the lines

-- P of every statement of the list
abbrev All : (Statement → Type 0) → List Statement → Type 0
All P [] = Unit {0}
All P (x ∷ xs) = P x × All P xs

all_one : (P : Statement → Type 0) (xs : List Statement) → All P xs → {x : Statement} → One x xs → P x
all_one P [] a o = absurd (one_none o)
all_one P (y ∷ xs) a {x} o = ⊎_elim (λ e. subst P (sym e) a.0) (λ z. all_one P xs a.1 z) (one-cases o)

two-inside : (two : ℕ) → All (λ x. Model two (cell_of x)) two_links
unfolding Model
two-inside two =
    ((omega arith, inl (refl, refl)), ((refl, refl, omega arith, omega arith), ((refl, refl, omega arith, omega arith), ((omega arith, inr (omega arith, refl)), ((omega arith, inr (omega arith, refl)), tt)))))

in_lines : (two : ℕ) (lines : List Statement) → All (λ x. Model two (cell_of x)) lines → (c : Cell) → Stated lines c → Model two c
in_lines two lines a c (stated o) = all_one (λ x. Model two (cell_of x)) lines a o

-- d1 and d2 are different articles
pub two-articles : {W : ℕ} {s : List ℕ} {k : ℕ} {u : Rule} {fs : List Finding} → Keeps W three_items (Stated two_links) s → IsAtLeast 2 u → Findings (Holds W three_items s) three_items k u fs
    → length fs ≡ 0
unfolding Model class
two-articles {W} {s} {u = u} k i f = number-unique (findings-number f) (number-none never)
  where
    lines : (c : Cell) → Stated two_links c → Model 2 c
    lines = in_lines 2 two_links (two-inside 2)

    apart : ¬ (Holds W three_items s (Same 1 2))
    apart x = let e = (in-model W 2 (omega arith) two_links lines s k u i (Same 1 2) x).2 in absurd (omega arith)

    each : (b : ℕ) → One b (1 ∷ 2 ∷ []) → (b < 3) × (Holds W three_items s (Link 0 0 b) × Holds W three_items s (In b 1))
    each b o =
        ⊎_elim (λ e. subst (λ (y : ℕ). (y < 3) × (Holds W three_items s (Link 0 0 y) × Holds W three_items s (In y 1))) (sym e)
        (omega arith, (k.whole (Link 0 0 1) (given (stated (later first))), k.whole (In 1 1) (given (stated (later (later (later first))))))))
        (λ p. ⊎_elim (λ e. subst (λ (y : ℕ). (y < 3) × (Holds W three_items s (Link 0 0 y) × Holds W three_items s (In y 1))) (sym e)
        (omega arith, (k.whole (Link 0 0 2) (given (stated (later (later first)))), k.whole (In 2 1) (given (stated (later (later (later (later first)))))))))
        (λ q. absurd (one_none q)) (one-cases p)) (one-cases o)

    enough : Articles (Holds W three_items s) three_items 2 (λ b. Holds W three_items s (Link 0 0 b) × Holds W three_items s (In b 1))
    enough = record {
      items = 1 ∷ 2 ∷ [];
      count = refl;
      each = each;
      different = more (λ y o. ⊎_elim (λ e x. apart (subst (λ (z : ℕ). Holds W three_items s (Same 1 z)) e x)) (λ p. absurd (one_none p)) (one-cases o)) (more (λ y o. absurd (one_none o)) none);
    }

    never : (p : ℕ × Second) → ¬ (Breaks (Holds W three_items s) three_items u p.0 p.1)
    never p b =
        let z = breaks-zero W 2 (omega arith) two_links lines s k u i p.0 p.1 b in
        let e : p ≡ (0, None) = ap₂ {C = ℕ × Second} (λ x t. (x, t)) z.0 z.1 in
        asks W 2 (omega arith) two_links lines s k u i (subst (λ (q : ℕ × Second). Breaks (Holds W three_items s) three_items u q.0 q.1) e b) enough

-- d1 and d2 are one article
pub one-article : {W : ℕ} {s : List ℕ} {k : ℕ} {u : Rule} {fs : List Finding} → Keeps W three_items (Stated (same_links ∷ two_links)) s → IsAtLeast 2 u
    → Findings (Holds W three_items s) three_items k u fs → length fs ≡ 1
unfolding Model class
one-article {W} {s} {u = u} k i f = number-unique (findings-number f) (record {
  all = (0, None) ∷ [];
  distinct = Distinct-more one_none Distinct-none;
  sound = λ p x. subst (λ (q : ℕ × Second). Breaks (Holds W three_items s) three_items u q.0 q.1) (sym (⊎_elim (λ q. q) (λ y. absurd (one_none y)) (one-cases x))) here;
  whole = λ p b.
      let z = breaks-zero W 1 (omega arith) (same_links ∷ two_links) lines s k u i p.0 p.1 b in
      subst (λ (q : ℕ × Second). One q ((0, None) ∷ [])) (sym (ap₂ {C = ℕ × Second} (λ x t. (x, t)) z.0 z.1)) first;
  count = refl;
})
  where
    lines : (c : Cell) → Stated (same_links ∷ two_links) c → Model 1 c
    lines = in_lines 1 (same_links ∷ two_links) ((omega arith, omega arith, refl), two-inside 1)

    same12 : Holds W three_items s (Same 1 2)
    same12 = k.whole (Same 1 2) (given (stated first))

    -- what c is linked to is of one article
    linked-same : (a b : ℕ) → 0 < a → a < 3 → 0 < b → b < 3 → Holds W three_items s (Same a b)
    linked-same zero b h l h' l' = absurd (omega arith)
    linked-same (suc zero) zero h l h' l' = absurd (omega arith)
    linked-same (suc zero) (suc zero) h l h' l' = k.store.closed.obeys.same_refl l
    linked-same (suc zero) (suc (suc zero)) h l h' l' = same12
    linked-same (suc zero) (suc (suc (suc b))) h l h' l' = absurd (omega arith)
    linked-same (suc (suc zero)) zero h l h' l' = absurd (omega arith)
    linked-same (suc (suc zero)) (suc zero) h l h' l' = k.store.closed.obeys.same-sym same12
    linked-same (suc (suc zero)) (suc (suc zero)) h l h' l' = k.store.closed.obeys.same_refl l
    linked-same (suc (suc zero)) (suc (suc (suc b))) h l h' l' = absurd (omega arith)
    linked-same (suc (suc (suc a))) b h l h' l' = absurd (omega arith)

    to-d : (b : ℕ) → Holds W three_items s (Link 0 0 b) → (0 < b) × (b < 3)
    to-d b x = let m = in-model W 1 (omega arith) (same_links ∷ two_links) lines s k u i (Link 0 0 b) x in (m.2, m.3)

    pair : (xs : List ℕ) → length xs ≡ 2 → ((b : ℕ) → One b xs → Holds W three_items s (Link 0 0 b)) → ¬ (Different (Holds W three_items s) xs)
    pair [] e g d = absurd (omega arith)
    pair (x ∷ []) e g d = absurd (omega arith)
    pair (x ∷ y ∷ xs) e g (more a d) = let p = to-d x (g x first) in let q = to-d y (g y (later first)) in a y first (linked-same x y p.0 p.1 q.0 q.1)

    here : Breaks (Holds W three_items s) three_items u 0 None
    here =
        broken W 1 (omega arith) (same_links ∷ two_links) lines s k u i (k.whole (In 0 0) (given (stated (later first))))
        (λ a. pair a.items a.count (λ b o. (a.each b o).1.0) a.different)
