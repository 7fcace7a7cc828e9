-- Whatever breaks a rule can be put in order: a list of places, each once, as findings in order. Assumes nothing.
use Rattle.std.specs.Prelude.{◌≡◌, refl, ◌⊎◌, List, [], ◌∷◌, ℕ, suc, ◌<◌, length}
use Rattle.std.proofs.Common.{sym, ap, ap₂, ◌∙◌, subst, inl, inr, ⊎_elim, arith}
use Rattle.std.proofs.Math.Decide.{ℕ_discrete, dec_lt}
use Rattle.logic.specs.Number.{One, Distinct, Number}
use Rattle.logic.specs.Number.One.{first, later}
use Rattle.logic.specs.Number.Distinct.{more as Distinct-more}
use Rattle.logic.specs.laws.Number.{one-cases, one_none}
use Rattle.store.specs.Cell.{Cell}
use Rattle.store.specs.declared.Counts.{Counts}
use Rattle.rule.specs.declared.Rule.{Rule}
use Rattle.rule.specs.declared.Finding.{Finding}
use Rattle.rule.specs.Second.{Second}
use Rattle.rule.specs.Findings.{SecondBefore, Before, InOrder, finding_of, Findings}
use Rattle.rule.specs.Findings.InOrder.{none, more}
use Rattle.rule.specs.Breaks.{Breaks}
use Rattle.std.specs.Prelude.{None, Some}

-- of two seconds one comes before the other, or they are equal
second-order : (s t : Second) → SecondBefore s t ⊎ (SecondBefore t s ⊎ (s ≡ t))
second-order None None = inr (inr refl)
second-order None (Some j) = inl tt
second-order (Some i) None = inr (inl tt)
second-order (Some i) (Some j) = go (dec_lt i.0 j.0) (ℕ_discrete i.0 j.0)
  where
    go : Dec (i.0 < j.0) → Dec (i.0 ≡ j.0) → (i.0 < j.0) ⊎ ((j.0 < i.0) ⊎ (Some i ≡ Some j))
    go (yes l) d = inl l
    go (no l) (yes e) = inr (inr (ap (λ (k : ℕ). Some (record { 0 = k })) e))
    go (no l) (no e) = inr (inl (omega arith))

-- of two places one comes before the other, or they are equal
place-order : (number : ℕ) (p q : ℕ × Second) → Before (finding_of number p.0 p.1) (finding_of number q.0 q.1) ⊎ (Before (finding_of number q.0 q.1) (finding_of number p.0 p.1) ⊎ (p ≡ q))
place-order number p q = go (dec_lt p.0 q.0) (ℕ_discrete p.0 q.0)
  where
    go : Dec (p.0 < q.0) → Dec (p.0 ≡ q.0) → Before (finding_of number p.0 p.1) (finding_of number q.0 q.1) ⊎ (Before (finding_of number q.0 q.1) (finding_of number p.0 p.1) ⊎ (p ≡ q))
    go (yes l) d = inl (inl l)
    go (no l) (yes e) =
        ⊎_elim (λ x. inl (inr (e, x)))
        (λ y. ⊎_elim (λ x. inr (inl (inr (sym e, x)))) (λ x. inr (inr (ap₂ {C = ℕ × Second} (λ a t. (a, t)) e x))) y)
        (second-order p.1 q.1)
    go (no l) (no e) = inr (inl (inl (omega arith)))

second-then : (s t v : Second) → SecondBefore s t → SecondBefore t v → SecondBefore s v
second-then None None v x y = absurd x
second-then None (Some j) None x y = y
second-then None (Some j) (Some k) x y = tt
second-then (Some i) None v x y = absurd x
second-then (Some i) (Some j) None x y = y
second-then (Some i) (Some j) (Some k) x y = omega arith

-- one after another
pub before-then : (f g h : Finding) → Before f g → Before g h → Before f h
before-then f g h (inl x) (inl y) = inl (omega arith)
before-then f g h (inl x) (inr y) = inl (omega (arith, y.0))
before-then f g h (inr x) (inl y) = inl (omega (arith, x.0))
before-then f g h (inr x) (inr y) = inr (x.0 ∙ y.0, second-then f.second g.second h.second x.1 y.1)

-- the places of a list as findings in order
pub record Sorted (number : ℕ) (ps : List (ℕ × Second)) : Type 0 where
  pub list : List Finding
  pub ordered : InOrder list
  pub sound : (f : Finding) → One f list → (p : ℕ × Second) × One p ps × (f ≡ finding_of number p.0 p.1)
  pub whole : (p : ℕ × Second) → One p ps → One (finding_of number p.0 p.1) list
  pub count : length list ≡ length ps

-- one more finding in a list in order
record Put (g : Finding) (fs : List Finding) : Type 0 where
  list : List Finding
  ordered : InOrder list
  sound : (f : Finding) → One f list → (f ≡ g) ⊎ One f fs
  here : One g list
  rest : (f : Finding) → One f fs → One f list
  count : length list ≡ suc (length fs)

put : (g : Finding) (fs : List Finding) → InOrder fs → ((f : Finding) → One f fs → Before g f ⊎ Before f g) → Put g fs
put g [] o c = record { list = g ∷ []; ordered = more (λ f x. absurd (one_none x)) none; sound = one-cases-of g []; here = first; rest = λ f x. absurd (one_none x); count = refl }
  where
    one-cases-of : (h : Finding) (hs : List Finding) (f : Finding) → One f (h ∷ hs) → (f ≡ h) ⊎ One f hs
    one-cases-of h hs f x = one-cases x
put g (f ∷ fs) (more b o) c = go (c f first) (put g fs o (λ h x. c h (later x)))
  where
    go : Before g f ⊎ Before f g → Put g fs → Put g (f ∷ fs)
    go (inl x) r = record {
      list = g ∷ f ∷ fs;
      ordered = more (λ h y. ⊎_elim (λ e. subst (λ (k : Finding). Before g k) (sym e) x) (λ z. before-then g f h x (b h z)) (one-cases y)) (more b o);
      sound = λ h y. one-cases y;
      here = first;
      rest = λ h y. later y;
      count = refl;
    }
    go (inr x) r = record {
      list = f ∷ r.list;
      ordered = more (λ h y. ⊎_elim (λ e. subst (λ (k : Finding). Before f k) (sym e) x) (λ z. b h z) (r.sound h y)) r.ordered;
      sound = λ h y. ⊎_elim (λ e. inr (subst (λ (k : Finding). One k (f ∷ fs)) (sym e) first)) (λ z. ⊎_elim (λ e. inl e) (λ v. inr (later v)) (r.sound h z)) (one-cases y);
      here = later r.here;
      rest = λ h y. ⊎_elim (λ e. subst (λ (k : Finding). One k (f ∷ r.list)) (sym e) first) (λ z. later (r.rest h z)) (one-cases y);
      count = ap suc r.count;
    }

-- every list of places, each once, can be put in order
pub sorted : (number : ℕ) (ps : List (ℕ × Second)) → Distinct ps → Sorted number ps
sorted number [] d = record { list = []; ordered = none; sound = λ f x. absurd (one_none x); whole = λ p x. absurd (one_none x); count = refl }
sorted number (p ∷ ps) (Distinct-more a d) = go (sorted number ps d)
  where
    go : Sorted number ps → Sorted number (p ∷ ps)
    go r = record {
      list = w.list;
      ordered = w.ordered;
      sound = λ f x. ⊎_elim (λ e. (p, first, e)) (λ y. let z = r.sound f y in (z.0, later z.1, z.2)) (w.sound f x);
      whole = λ q x. ⊎_elim (λ e. subst (λ (t : ℕ × Second). One (finding_of number t.0 t.1) w.list) (sym e) w.here) (λ y. w.rest _ (r.whole q y)) (one-cases x);
      count = w.count ∙ ap suc r.count;
    }
      where
        apart : (f : Finding) → One f r.list → Before (finding_of number p.0 p.1) f ⊎ Before f (finding_of number p.0 p.1)
        apart f x =
            let z = r.sound f x in
            subst (λ (g : Finding). Before (finding_of number p.0 p.1) g ⊎ Before g (finding_of number p.0 p.1)) (sym z.2)
            (⊎_elim (λ y. inl y) (λ y. ⊎_elim (λ v. inr v) (λ e. absurd (a (subst (λ (t : ℕ × Second). One t ps) (sym e) z.1))) y) (place-order number p z.0))

        w : Put (finding_of number p.0 p.1) r.list
        w = put (finding_of number p.0 p.1) r.list r.ordered apart

-- where there are k ways to break a rule, there is the list of its findings, and it is k long
pub record Ordered (C : Cell → Type 0) (n : Counts) (number : ℕ) (u : Rule) (k : ℕ) : Type 0 where
  pub list : List Finding
  pub findings : Findings C n number u list
  pub count : length list ≡ k

pub in_order : {C : Cell → Type 0} {n : Counts} (number : ℕ) {u : Rule} {k : ℕ} → Number (λ (p : ℕ × Second). Breaks C n u p.0 p.1) k → Ordered C n number u k
in_order {C} {n} number {u} m =
    let r = sorted number m.all m.distinct in
    record {
      list = r.list;
      findings = record {
        ordered = r.ordered;
        sound = λ f x.
            let z = r.sound f x in
            subst (λ (g : Finding). (g.rule ≡ number) × Breaks C n u g.item.0 g.second) (sym z.2) (refl, m.sound z.0 z.1);
        whole = λ x s b. r.whole (x, s) (m.whole (x, s) b);
      };
      count = r.count ∙ m.count;
    }
