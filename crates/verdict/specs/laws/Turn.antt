-- The findings of a sheet's rules stand in order, each at the rule that it breaks; and lists in order with the same findings are equal. Assumes nothing.
use Rattle.std.specs.Prelude.{◌≡◌, refl, ◌⊎◌, List, [], ◌∷◌, ◌++◌, ℕ, suc, ◌+◌, ◌<◌, length}
use Rattle.std.proofs.Common.{sym, ap, ap₂, ◌∙◌, subst, inl, inr, ⊎_elim, arith}
use Rattle.logic.specs.Number.{One}
use Rattle.logic.specs.Number.One.{first, later}
use Rattle.logic.specs.laws.Number.{one-cases, one_none}
use Rattle.store.specs.declared.Counts.{Counts}
use Rattle.store.specs.Cell.{Cell}
use Rattle.rule.specs.declared.Finding.{Finding}
use Rattle.rule.specs.Second.{Second}
use Rattle.std.specs.Prelude.{None, Some}
use Rattle.rule.specs.Breaks.{Breaks}
use Rattle.rule.specs.Findings.{Before, InOrder, SecondBefore, finding_of}
use Rattle.rule.specs.Findings.InOrder.{none as order-none, more as order-more}
use Rattle.judge.specs.laws.Sorted.{before-then}
use Rattle.reason.specs.laws.Part.{one-either, one_left, one_right}
use Rattle.sheet.specs.Promise.{FindingsFrom}
use Rattle.sheet.specs.Promise.FindingsFrom.{none as no-rule, more as one-rule}
use Rattle.sheet.specs.Said.{SheetRule}
use Rattle.verdict.specs.Violations.{Earlier, InTurn}
use Rattle.verdict.specs.Violations.InTurn.{none, more}

-- ---- one list in order

second-itself : (s : Second) → ¬ (SecondBefore s s)
second-itself None x = x
second-itself (Some i) x = omega arith

-- no finding comes before itself
before-itself : (f : Finding) → ¬ (Before f f)
before-itself f (inl l) = omega arith
before-itself f (inr q) = second-itself f.second q.1

-- of two findings only one comes before the other
earlier-apart : (f g : Finding) → Earlier f g → Earlier g f → ⊥
earlier-apart f g (inl l) (inl h) = omega arith
earlier-apart f g (inl l) (inr q) = omega (arith, q.0)
earlier-apart f g (inr p) (inl h) = omega (arith, p.0)
earlier-apart f g (inr p) (inr q) = before-itself f (before-then f g f p.1 q.1)

-- lists in order with the same findings are equal
pub turn-unique : {fs gs : List Finding} → InTurn fs → InTurn gs → ((f : Finding) → One f fs → One f gs) → ((f : Finding) → One f gs → One f fs) → fs ≡ gs
turn-unique none none p q = refl
turn-unique none (more {f = g} b o) p q = absurd (one_none (q g first))
turn-unique (more {f = f} b o) none p q = absurd (one_none (p f first))
turn-unique (more {f = f} {fs = fs} b o) (more {f = g} {fs = gs} d r) p q = ap₂ ◌∷◌ same (turn-unique o r to from)
  where
    same : f ≡ g
    same = ⊎_elim (λ e. e) (λ x. ⊎_elim (λ e. sym e) (λ y. absurd (earlier-apart f g (b g y) (d f x))) (one-cases (q g first))) (one-cases (p f first))

    to : (h : Finding) → One h fs → One h gs
    to h x = ⊎_elim (λ e. absurd (earlier-apart f f (b f (again e)) (b f (again e)))) (λ y. y) (one-cases (p h (later x)))
      where
        again : h ≡ g → One f fs
        again e = subst (λ (k : Finding). One k fs) (e ∙ sym same) x

    from : (h : Finding) → One h gs → One h fs
    from h x = ⊎_elim (λ e. absurd (earlier-apart g g (d g (again e)) (d g (again e)))) (λ y. y) (one-cases (q h (later x)))
      where
        again : h ≡ f → One g gs
        again e = subst (λ (k : Finding). One k gs) (e ∙ same) x

-- findings of one number in order, before those of greater ones
turn-join : {k : ℕ} {fs gs : List Finding} → InOrder fs → ((f : Finding) → One f fs → f.rule ≡ k) → InTurn gs → ((g : Finding) → One g gs → k < g.rule) → InTurn (fs ++ gs)
turn-join order-none at t above = t
turn-join {gs = gs} (order-more {f = f} {fs = fs} b o) at t above = more ahead (turn-join o (λ g q. at g (later q)) t above)
  where
    ahead : (g : Finding) → One g (fs ++ gs) → Earlier f g
    ahead g q = ⊎_elim (λ p. inr (at f first ∙ sym (at g (later p)), b g p)) (λ p. inl (omega (arith, at f first, above g p))) (one-either fs q)

-- ---- the findings of rules, from the number k on

-- the finding f is that of the rule at its number
pub record Placed (C : Cell → Type 0) (n : Counts) (k : ℕ) (rs : List SheetRule) (f : Finding) : Type 0 where
  pub before : List SheetRule
  pub rule : SheetRule
  pub after : List SheetRule
  pub is : rs ≡ before ++ rule ∷ after
  pub place : f.rule ≡ k + length before
  pub breaks : Breaks C n rule.rule f.item.0 f.second

module _ {C : Cell → Type 0} {n : Counts} where
  pub from-placed : {k : ℕ} {rs : List SheetRule} {fs : List Finding} {f : Finding} → FindingsFrom C n k rs fs → One f fs → Placed C n k rs f
  from-placed no-rule o = absurd (one_none o)
  from-placed {k} {f = f} (one-rule {r = r} {rs = rs} {fs = fs} {gs = gs} a m) o = go (one-either fs o) (λ q. from-placed m q)
    where
      go : One f fs ⊎ One f gs → (One f gs → Placed C n (suc k) rs f) → Placed C n k (r ∷ rs) f
      go (inl q) rest = record { before = []; rule = r; after = rs; is = refl; place = omega (arith, (a.sound f q).0); breaks = (a.sound f q).1 }
      go (inr q) rest =
          let z = rest q in
          record { before = r ∷ z.before; rule = z.rule; after = z.after; is = ap (◌∷◌ r) z.is; place = omega (arith, z.place); breaks = z.breaks }

  -- what breaks a rule is a finding with its number
  pub from-has : {k : ℕ} (before : List SheetRule) (r : SheetRule) (after : List SheetRule) {fs : List Finding} {x : ℕ} {s : Second} → FindingsFrom C n k (before ++ r ∷ after) fs
      → Breaks C n r.rule x s → One (finding_of (k + length before) x s) fs
  from-has {k} [] r after {x = x} {s = s} (one-rule {fs = fs} {gs = gs} a m) b = one_left gs (subst (λ (j : ℕ). One (finding_of j x s) fs) (omega arith) (a.whole x s b))
  from-has {k} (q ∷ before) r after {x = x} {s = s} (one-rule {fs = fs} {gs = gs} a m) b =
      one_right fs (subst (λ (j : ℕ). One (finding_of j x s) gs) (omega arith) (from-has before r after m b))

  -- they stand in order
  pub from-turn : {k : ℕ} {rs : List SheetRule} {fs : List Finding} → FindingsFrom C n k rs fs → InTurn fs
  from-turn no-rule = none
  from-turn (one-rule a m) = turn-join a.ordered (λ f o. (a.sound f o).0) (from-turn m) (λ g o. let z = from-placed m o in omega (arith, z.place))
