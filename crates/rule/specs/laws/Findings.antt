-- Laws of the findings: there is one list of them, and it is as long as there are ways to break the rule. Assumes nothing.
use Rattle.std.specs.Prelude.{◌≡◌, refl, ◌⊎◌, List, [], ◌∷◌, ℕ, suc, length}
use Rattle.std.proofs.Common.{sym, ap, ap₂, ◌∙◌, subst, inl, inr, ⊎_elim, arith}
use Rattle.logic.specs.Number.{One, Distinct, Number}
use Rattle.logic.specs.Number.One.{first, later}
use Rattle.logic.specs.Number.Distinct.{none as Distinct-none, more as Distinct-more}
use Rattle.logic.specs.laws.Number.{one-cases, one_none}
use Rattle.store.specs.declared.Counts.{Counts}
use Rattle.store.specs.Cell.{Cell}
use Rattle.rule.specs.declared.Finding.{Finding}
use Rattle.rule.specs.declared.Rule.{Rule}
use Rattle.rule.specs.Second.{Second}
use Rattle.std.specs.Prelude.{None, Some}
use Rattle.rule.specs.Breaks.{Breaks}
use Rattle.rule.specs.Findings.{SecondBefore, Before, InOrder, finding_of, Findings}
use Rattle.rule.specs.Findings.InOrder.{none, more}

-- no second item comes before itself, and of two only one before the other
second-apart : (s t : Second) → SecondBefore s t → SecondBefore t s → ⊥
second-apart None None x y = x
second-apart None (Some j) x y = y
second-apart (Some i) None x y = x
second-apart (Some i) (Some j) x y = omega arith

-- of two findings only one comes before the other
before-apart : (f g : Finding) → Before f g → Before g f → ⊥
before-apart f g (inl x) (inl y) = omega arith
before-apart f g (inl x) (inr y) = omega (arith, y.0)
before-apart f g (inr x) (inl y) = omega (arith, x.0)
before-apart f g (inr x) (inr y) = second-apart f.second g.second x.1 y.1

-- a list in order does not have its first finding again
not-again : {f : Finding} {fs : List Finding} → InOrder (f ∷ fs) → ¬ (One f fs)
not-again {f} (more b o) x = before-apart f f (b f x) (b f x)

-- two lists in order with the same findings are equal
pub order-unique : {fs gs : List Finding} → InOrder fs → InOrder gs → ((f : Finding) → One f fs → One f gs) → ((f : Finding) → One f gs → One f fs) → fs ≡ gs
order-unique none none p q = refl
order-unique none (more {f = g} b o) p q = absurd (one_none (q g first))
order-unique (more {f = f} b o) none p q = absurd (one_none (p f first))
order-unique (more {f = f} {fs = fs} b o) (more {f = g} {fs = gs} d r) p q = ap₂ ◌∷◌ same (order-unique o r to from)
  where
    same : f ≡ g
    same =
        ⊎_elim (λ e. e) (λ x. ⊎_elim (λ e. sym e) (λ y. absurd (before-apart f g (b g y) (d f x))) (one-cases (q g first)))
        (one-cases (p f first))

    to : (h : Finding) → One h fs → One h gs
    to h x =
        ⊎_elim (λ e. absurd (not-again (more b o) (subst (λ (k : Finding). One k fs) (e ∙ sym same) x))) (λ y. y)
        (one-cases (p h (later x)))

    from : (h : Finding) → One h gs → One h fs
    from h x =
        ⊎_elim (λ e. absurd (not-again (more d r) (subst (λ (k : Finding). One k gs) (e ∙ same) x))) (λ y. y)
        (one-cases (q h (later x)))

-- a finding is made of its parts
finding-is : (number : ℕ) (f : Finding) → f.rule ≡ number → f ≡ finding_of number f.item.0 f.second
finding-is number f e = ap (λ (k : ℕ). finding_of k f.item.0 f.second) e

module _ {C : Cell → Type 0} {n : Counts} {number : ℕ} {u : Rule} where
  shared : {fs gs : List Finding} → Findings C n number u fs → Findings C n number u gs → (f : Finding) → One f fs → One f gs
  shared {gs = gs} a b f x =
      let s = a.sound f x in
      subst (λ (g : Finding). One g gs) (sym (finding-is number f s.0)) (b.whole f.item.0 f.second s.1)

  -- there is one list of findings
  pub findings-unique : {fs gs : List Finding} → Findings C n number u fs → Findings C n number u gs → fs ≡ gs
  findings-unique a b = order-unique a.ordered b.ordered (shared a b) (shared b a)

-- the place of a finding
abbrev place_of : Finding → ℕ × Second
place_of f = (f.item.0, f.second)

-- the places of a list
places : List Finding → List (ℕ × Second)
places [] = []
places (f ∷ fs) = place_of f ∷ places fs

places-length : (fs : List Finding) → length (places fs) ≡ length fs
unfolding places
places-length [] = refl
places-length (f ∷ fs) = ap suc (places-length fs)

in-places : {f : Finding} (fs : List Finding) → One f fs → One (place_of f) (places fs)
unfolding places
in-places {f = f} [] x = elim x [ ]
in-places (g ∷ fs) first = first
in-places (g ∷ fs) (later x) = later (in-places fs x)

of_places : (fs : List Finding) {p : ℕ × Second} → One p (places fs) → (f : Finding) × One f fs × (p ≡ place_of f)
unfolding places
of_places [] x = absurd (one_none x)
of_places (g ∷ fs) {p} x = go (one-cases x) (λ y. of_places fs y)
  where
    go : (p ≡ place_of g) ⊎ One p (places fs) → (One p (places fs) → (f : Finding) × One f fs × (p ≡ place_of f)) → (f : Finding) × One f (g ∷ fs) × (p ≡ place_of f)
    go (inl e) h = (g, first, e)
    go (inr y) h = let r = h y in (r.0, later r.1, r.2)

-- findings at one place do not come before each other
place-apart : (f g : Finding) → place_of f ≡ place_of g → Before f g → ⊥
place-apart f g e x = before-apart f g x (go x)
  where
    item : f.item.0 ≡ g.item.0
    item = ap (λ (p : ℕ × Second). p.0) e

    second-same : f.second ≡ g.second
    second-same = ap (λ (p : ℕ × Second). p.1) e

    go : Before f g → Before g f
    go (inl l) = absurd (omega (arith, item))
    go (inr y) = inr (sym item, subst (λ (s : Second). SecondBefore s f.second) second-same (subst (λ (s : Second). SecondBefore f.second s) (sym second-same) y.1))

places-distinct : {fs : List Finding} → InOrder fs → Distinct (places fs)
unfolding places
places-distinct none = Distinct-none
places-distinct (more {f = f} {fs = fs} b o) = Distinct-more (λ x. let r = of_places fs x in place-apart f r.0 r.2 (b r.0 r.1)) (places-distinct o)

-- the list is as long as there are ways to break the rule
pub findings-number : {C : Cell → Type 0} {n : Counts} {number : ℕ} {u : Rule} {fs : List Finding} → Findings C n number u fs → Number (λ (p : ℕ × Second). Breaks C n u p.0 p.1) (length fs)
findings-number {C} {n} {number} {u} {fs} a = record {
  all = places fs;
  distinct = places-distinct a.ordered;
  sound = λ p x. let r = of_places fs x in subst (λ (q : ℕ × Second). Breaks C n u q.0 q.1) (sym r.2) (a.sound r.0 r.1).1;
  whole = λ p x. in-places fs (a.whole p.0 p.1 x);
  count = places-length fs;
}
