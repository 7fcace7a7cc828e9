-- Whether a rule is broken can be told, and so there is the list of the findings of rules. Assumes nothing.
use Rattle.std.specs.Prelude.{◌≡◌, ◌⊎◌, List, [], ◌∷◌, ◌++◌, take}
use Rattle.std.proofs.Common.{sym, ⊎_elim, arith}
use Rattle.std.proofs.Math.Path.{ap, subst}
use Rattle.std.proofs.Math.Logic.{inl, inr}
use mathlib.Core.Logic.Dec
use Prim.Native.Nat.{ℕ, zero, suc, ◌<◌}
use Rattle.std.proofs.Math.Decide.{ℕ_discrete, dec_lt}
use Rattle.logic.specs.Number.{Number, One}
use Rattle.logic.specs.Number.One.{first}
use Rattle.logic.specs.laws.Number.{number-iff, number-map, number_more, number-none, number-or, one_none}
use Rattle.store.specs.declared.Counts.{Counts}
use Rattle.store.specs.Cell.{Cell, DeclaredItem, Obeys}
use Rattle.store.specs.Cell.Cell.{Same as SameCell}
use Rattle.rule.specs.declared.Finding.{Finding}
use Rattle.rule.specs.declared.Head.{Head}
use Rattle.rule.specs.declared.Head.TheVariants.{Sub, RoleSub, Chain, Ref, Irr, Dis, In, Rel, NoRel, Same, Differ}
use Rattle.rule.specs.declared.RoleUse.{RoleUse}
use Rattle.rule.specs.declared.Rule.{Rule}
use Rattle.rule.specs.Second.{Second}
use Rattle.std.specs.Prelude.{None, Some}
use Rattle.rule.specs.declared.Slot.{Slot}
use Rattle.rule.specs.Breaks.{Breaks, BreaksAlone, BreaksPair, Path}
use Rattle.rule.specs.Expr.{expr_of}
use Rattle.rule.proofs.laws.Told.{holds_of?, linked?}
use Rattle.judge.specs.laws.Sorted.{in_order}
use Rattle.sheet.specs.Promise.{FindingsFrom}
use Rattle.sheet.specs.Promise.FindingsFrom.{none, more}
use Rattle.sheet.specs.Said.{SheetRule}

-- ---- what can be told of each number has a number below a bound

below-cases : (m x : ℕ) → x < suc m → (x ≡ m) ⊎ (x < m)
below-cases m x l = go (ℕ_discrete x m)
  where
    go : Dec (x ≡ m) → (x ≡ m) ⊎ (x < m)
    go (yes e) = inl e
    go (no e) = inr (omega arith)

told_below : {P : ℕ → Type 0} → ((x : ℕ) → Dec (P x)) → (m : ℕ) → (k : ℕ) × Number (λ (x : ℕ). (x < m) × P x) k
told_below tell zero = (0, number-none (λ x r. omega (arith, r.0)))
told_below {P} tell (suc m) = go (tell m) (told_below tell m)
  where
    go : Dec (P m) → (k : ℕ) × Number (λ (x : ℕ). (x < m) × P x) k → (k : ℕ) × Number (λ (x : ℕ). (x < suc m) × P x) k
    go (yes p) r = (
      suc r.0,
      number-iff (λ x. ⊎_elim (λ e. (omega arith, subst P (sym e) p)) (λ q. (omega (arith, q.0), q.1))) (λ x q. ⊎_elim inl (λ l. inr (l, q.1)) (below-cases m x q.0))
          (number_more (λ q. omega (arith, q.0)) r.1),
    )
    go (no p) r = (r.0, number-iff (λ x q. (omega (arith, q.0), q.1)) (λ x q. (⊎_elim (λ e. absurd (p (subst P e q.1))) (λ l. l) (below-cases m x q.0), q.1)) r.1)

-- where things of a kind have a number, it can be told whether there is one
some? : {A : Type 0} {P : A → Type 0} {k : ℕ} → Number P k → Dec ((x : A) × P x)
some? {A} {P} a = go a.all a.sound a.whole
  where
    go : (xs : List A) → ((x : A) → One x xs → P x) → ((x : A) → P x → One x xs) → Dec ((x : A) × P x)
    go [] s w = no (λ r. one_none (w r.0 r.1))
    go (x ∷ xs) s w = yes (x, s x first)

-- ---- places: an item with a second item or none

-- the second item j
abbrev second_of : ℕ → Second
second_of j = Some (record { 0 = j })

-- seconds as numbers
abbrev rank : Second → ℕ
rank None = 0
rank (Some j) = suc j.0

-- what can be told of each place, and holds only of items below m
module _ {B : ℕ × Second → Type 0} (tell : (p : ℕ × Second) → Dec (B p)) (m : ℕ) (inside : (x : ℕ) (s : Second) → B (x, s) → x < m) (inside_too : (x j : ℕ) → B (x, second_of j) → j < m) where
  -- the pairs of one item
  Pairs : ℕ → ℕ × Second → Type 0
  Pairs x p = (j : ℕ) × ((j < m) × B (x, second_of j)) × (p ≡ (x, second_of j))

  pairs : (x : ℕ) → (k : ℕ) × Number (Pairs x) k
  unfolding Pairs
  pairs x = let a = told_below (λ j. tell (x, second_of j)) m in (a.0, number-map (λ (j : ℕ). (x, second_of j)) (λ i j p q e. omega (arith, ap (λ (r : ℕ × Second). rank r.1) e)) a.1)

  pairs-hold : (x : ℕ) (p : ℕ × Second) → Pairs x p → (p.0 ≡ x) × B p
  unfolding Pairs
  pairs-hold x p q = (ap (λ (r : ℕ × Second). r.0) q.2, subst B (sym q.2) q.1.1)

  -- a place of an item is the item alone, or one of its pairs
  alone-or-pair : (x y : ℕ) (s : Second) → y ≡ x → B (y, s) → (◌≡◌ {A = ℕ × Second} (y, s) (x, None)) ⊎ Pairs x (y, s)
  unfolding Pairs
  alone-or-pair x y None e b = inl (ap (λ (z : ℕ). (z, None)) e)
  alone-or-pair x y (Some i) e b = inr (i.0, (inside_too y i.0 b, subst (λ (z : ℕ). B (z, Some i)) e b), ap (λ (z : ℕ). (z, Some i)) e)

  not-pair : (x : ℕ) → ¬ (Pairs x (x, None))
  unfolding Pairs
  not-pair x q = omega (arith, ap (λ (r : ℕ × Second). rank r.1) q.2)

  -- the places of one item
  row : (x : ℕ) → (k : ℕ) × Number (λ (p : ℕ × Second). (p.0 ≡ x) × B p) k
  row x = go (tell (x, None)) (pairs x)
    where
      go : Dec (B (x, None)) → (k : ℕ) × Number (Pairs x) k → (k : ℕ) × Number (λ (p : ℕ × Second). (p.0 ≡ x) × B p) k
      go (yes b) r = (
        suc r.0,
        number-iff (λ p. ⊎_elim (λ e. (ap (λ (q : ℕ × Second). q.0) e, subst B (sym e) b)) (pairs-hold x p)) (λ p q. alone-or-pair x p.0 p.1 q.0 q.1) (number_more (not-pair x) r.1),
      )
      go (no b) r = (
        r.0,
        number-iff (pairs-hold x) (λ p q. ⊎_elim (λ e. absurd (b (subst B e q.1))) (λ z. z) (alone-or-pair x p.0 p.1 q.0 q.1)) r.1,
      )

  -- those of the items below y
  rows : (y : ℕ) → (k : ℕ) × Number (λ (p : ℕ × Second). (p.0 < y) × B p) k
  rows zero = (0, number-none (λ p r. omega (arith, r.0)))
  rows (suc y) =
      let a = row y in
      let b = rows y in (
        _,
        number-iff (λ p. ⊎_elim (λ q. (omega (arith, q.0), q.1)) (λ q. (omega (arith, q.0), q.1))) (λ p q. ⊎_elim (λ e. inl (e, q.1)) (λ l. inr (l, q.1)) (below-cases y p.0 q.0))
            (number-or (λ p q r. omega (arith, q.0, r.0)) a.1 b.1),
      )

  -- all
  places : (k : ℕ) × Number B k
  places = let r = rows m in (r.0, number-iff (λ p q. q.1) (λ p b. (inside p.0 p.1 b, b)) r.1)

-- ---- rules

three? : {P Q R : Type 0} → Dec P → Dec Q → Dec R → Dec (P × Q × R)
three? p q r = Dec.of_iff ((λ z. (z.0, z.1.0, z.1.1), λ z. (z.0, (z.1, z.2)))) (Dec.and p (Dec.and q r))

module _ {n : Counts} {C : Cell → Type 0} (o : Obeys n C) (tell : (c : Cell) → Dec (C c)) where
  path? : (rs : List RoleUse) (x y : ℕ) → Dec (Path C n rs x y)
  path? [] x y = ℕ_discrete x y
  path? (r ∷ rs) x y =
      Dec.of_iff ((λ z. (z.0, z.1.0, z.1.1.0, z.1.1.1), λ z. (z.0, (z.1, (z.2, z.3)))))
      (some? (told_below (λ z. Dec.and (linked? tell r x z) (path? rs z y)) n.items).1)

  alone? : (ns : List Slot) (h : Head) (x : ℕ) → Dec (BreaksAlone C n ns h x)
  alone? ns (Sub c d) x = Dec.and (holds_of? o tell (expr_of ns c) x) (Dec.not (holds_of? o tell (expr_of ns d) x))
  alone? ns (RoleSub r s) x = no (λ z. z)
  alone? ns (Chain k r1 r2 r3 r4 r) x = no (λ z. z)
  alone? ns (Ref r) x = Dec.not (linked? tell r x x)
  alone? ns (Irr r) x = linked? tell r x x
  alone? ns (Dis r s) x = no (λ z. z)
  alone? ns (In c a) x = Dec.and (ℕ_discrete x a.0) (Dec.not (holds_of? o tell (expr_of ns c) x))
  alone? ns (Rel r a b) x = no (λ z. z)
  alone? ns (NoRel r a b) x = no (λ z. z)
  alone? ns (Same a b) x = no (λ z. z)
  alone? ns (Differ a b) x = no (λ z. z)

  pair? : (h : Head) (x y : ℕ) → Dec (BreaksPair C n h x y)
  pair? (Sub c d) x y = no (λ z. z)
  pair? (RoleSub r s) x y = Dec.and (linked? tell r x y) (Dec.not (linked? tell s x y))
  pair? (Chain k r1 r2 r3 r4 r) x y = Dec.and (path? (take k (r1 ∷ r2 ∷ r3 ∷ r4 ∷ [])) x y) (Dec.not (linked? tell r x y))
  pair? (Ref r) x y = no (λ z. z)
  pair? (Irr r) x y = no (λ z. z)
  pair? (Dis r s) x y = Dec.and (linked? tell r x y) (linked? tell s x y)
  pair? (In c a) x y = no (λ z. z)
  pair? (Rel r a b) x y = three? (ℕ_discrete x a.0) (ℕ_discrete y b.0) (Dec.not (linked? tell r x y))
  pair? (NoRel r a b) x y = three? (ℕ_discrete x a.0) (ℕ_discrete y b.0) (linked? tell r x y)
  pair? (Same a b) x y = three? (ℕ_discrete x a.0) (ℕ_discrete y b.0) (Dec.not (tell (SameCell x y)))
  pair? (Differ a b) x y = three? (ℕ_discrete x a.0) (ℕ_discrete y b.0) (tell (SameCell x y))

  -- whether a place breaks a rule
  breaks? : (u : Rule) (x : ℕ) (s : Second) → Dec (Breaks C n u x s)
  breaks? u x None = Dec.and (dec_lt x n.items) (alone? u.nodes u.head x)
  breaks? u x (Some y) = three? (dec_lt x n.items) (dec_lt y.0 n.items) (pair? u.head x y.0)

  -- it is one of declared items
  breaks-inside : (u : Rule) (x : ℕ) (s : Second) → Breaks C n u x s → DeclaredItem n x
  breaks-inside u x None b = b.0
  breaks-inside u x (Some y) b = b.0

  -- the findings of rules, the first of which has the number k
  pub all-findings : (k : ℕ) (rs : List SheetRule) → (fs : List Finding) × FindingsFrom C n k rs fs
  all-findings k [] = ([], none)
  all-findings k (r ∷ rs) =
      let u = r.rule in
      let a = in_order k (places {B = λ (p : ℕ × Second). Breaks C n u p.0 p.1} (λ p. breaks? u p.0 p.1) n.items (breaks-inside u) (λ x j b. b.1)).1 in
      let b = all-findings (suc k) rs in
      (a.list ++ b.0, more a.findings b.1)
