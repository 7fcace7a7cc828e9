-- Which number applies to a rule, and that each entry point allows one result. Assumes nothing.
use Rattle.std.specs.Prelude.{◌≡◌, refl, ◌⊎◌, List, ℕ, length}
use Rattle.std.proofs.Common.{sym, ap, ◌∙◌, inl, inr, ⊎_elim, arith}
use Rattle.logic.specs.Lowest.{Lowest, NoneApplies}
use Rattle.logic.specs.laws.Lowest.{lowest-unique}
use Rattle.store.specs.declared.Counts.{Counts}
use Rattle.store.specs.Layout.{ClosedStore, Sized}
use Rattle.rule.specs.declared.Finding.{Finding}
use Rattle.rule.specs.declared.Rule.{Rule}
use Rattle.judge.specs.declared.RuleRefusal.{RuleRefusal}
use Rattle.judge.specs.declared.RuleRefusal.TheVariants.{Size, NotClosed, Malformed, Number}
use Rattle.judge.specs.Total.{Total}
use Rattle.std.specs.Prelude.{Err, Ok}
use Rattle.rule.specs.Form.{WellFormed, RuleWithin}
use Rattle.judge.specs.Promise.{filled, number, RuleFault, Judged, Totals, Lists}
use Rattle.judge.specs.Promise.RuleFault.{wrong_size, not-closed, malformed, wrong-number}
use Rattle.judge.specs.Promise.Totals.{refused as total-refused, counted}
use Rattle.judge.specs.Promise.Lists.{refused as list-refused, listed}
use Rattle.rule.specs.laws.Findings.{findings-unique}

-- the numbers that apply, one by one
rule-fault-is : {W : ℕ} {n : Counts} {u : Rule} {s : List ℕ} {j : ℕ} → RuleFault W n u s j
    → ((j ≡ 1) × ¬ (Sized W n s)) ⊎ (((j ≡ 2) × ¬ (ClosedStore W n s)) ⊎ (((j ≡ 3) × ¬ (WellFormed u)) ⊎ ((j ≡ 4) × ¬ (RuleWithin n u))))
rule-fault-is (wrong_size x) = inl (refl, x)
rule-fault-is (not-closed x) = inr (inl (refl, x))
rule-fault-is (malformed x) = inr (inr (inl (refl, x)))
rule-fault-is (wrong-number x) = inr (inr (inr (refl, x)))

module _ {W : ℕ} {n : Counts} {u : Rule} {s : List ℕ} where
  -- a store that is not sized is refused by 1
  pub rule-refused-1 : ¬ (Sized W n s) → Lowest (RuleFault W n u s) 1
  rule-refused-1 x = record {
    applies = wrong_size x;
    lowest = λ j l f.
        ⊎_elim (λ y. omega (arith, y.0)) (λ y. ⊎_elim (λ z. omega (arith, z.0)) (λ z. ⊎_elim (λ v. omega (arith, v.0)) (λ v. omega (arith, v.0)) z) y) (rule-fault-is f);
  }

  -- one that is not closed by 2
  pub rule-refused-2 : Sized W n s → ¬ (ClosedStore W n s) → Lowest (RuleFault W n u s) 2
  rule-refused-2 k x = record {
    applies = not-closed x;
    lowest = λ j l f.
        ⊎_elim (λ y. y.1 k) (λ y. ⊎_elim (λ z. omega (arith, z.0)) (λ z. ⊎_elim (λ v. omega (arith, v.0)) (λ v. omega (arith, v.0)) z) y) (rule-fault-is f);
  }

  -- a malformed rule by 3
  pub rule-refused-3 : Sized W n s → ClosedStore W n s → ¬ (WellFormed u) → Lowest (RuleFault W n u s) 3
  rule-refused-3 k m x = record {
    applies = malformed x;
    lowest = λ j l f.
        ⊎_elim (λ y. y.1 k) (λ y. ⊎_elim (λ z. z.1 m) (λ z. ⊎_elim (λ v. omega (arith, v.0)) (λ v. omega (arith, v.0)) z) y) (rule-fault-is f);
  }

  -- a number that is not below its count by 4
  pub rule-refused-4 : Sized W n s → ClosedStore W n s → WellFormed u → ¬ (RuleWithin n u) → Lowest (RuleFault W n u s) 4
  rule-refused-4 k m w x = record {
    applies = wrong-number x;
    lowest = λ j l f. ⊎_elim (λ y. y.1 k) (λ y. ⊎_elim (λ z. z.1 m) (λ z. ⊎_elim (λ v. v.1 w) (λ v. omega (arith, v.0)) z) y) (rule-fault-is f);
  }

  -- a rule that is judged is not refused
  pub judged-none : Judged W n u s → NoneApplies (RuleFault W n u s)
  judged-none d j f =
      ⊎_elim (λ y. y.1 d.sized) (λ y. ⊎_elim (λ z. z.1 d.store) (λ z. ⊎_elim (λ v. v.1 d.form) (λ v. v.1 d.within) z) y) (rule-fault-is f)

  -- a number that applies and a judged rule exclude each other
  judged-lowest : {k : ℕ} → Judged W n u s → ¬ (Lowest (RuleFault W n u s) k)
  judged-lowest {k} d l = judged-none d k l.applies

number-one : (j k : RuleRefusal) → number j ≡ number k → j ≡ k
number-one Size Size e = refl
number-one Size NotClosed e = absurd (omega arith)
number-one Size Malformed e = absurd (omega arith)
number-one Size Number e = absurd (omega arith)
number-one NotClosed Size e = absurd (omega arith)
number-one NotClosed NotClosed e = refl
number-one NotClosed Malformed e = absurd (omega arith)
number-one NotClosed Number e = absurd (omega arith)
number-one Malformed Size e = absurd (omega arith)
number-one Malformed NotClosed e = absurd (omega arith)
number-one Malformed Malformed e = refl
number-one Malformed Number e = absurd (omega arith)
number-one Number Size e = absurd (omega arith)
number-one Number NotClosed e = absurd (omega arith)
number-one Number Malformed e = absurd (omega arith)
number-one Number Number e = refl

-- the total allows one result
pub totals-unique : {W : ℕ} {n : Counts} {u : Rule} {s : List ℕ} {r r' : Total} → Totals W n u s r → Totals W n u s r' → r ≡ r'
totals-unique (total-refused {k = j} a) (total-refused {k = k} b) = ap Err (number-one j k (lowest-unique a b))
totals-unique (total-refused a) (counted d f) = absurd (judged-lowest d a)
totals-unique (counted d f) (total-refused a) = absurd (judged-lowest d a)
totals-unique (counted d f) (counted e g) = ap (λ (fs : List Finding). Ok (length fs)) (findings-unique f g)

-- the list of findings allows one result
pub lists-unique : {W : ℕ} {n : Counts} {k : ℕ} {u : Rule} {s : List ℕ} {before after after' : List Finding} {r r' : Total}
    → Lists W n k u s before after r → Lists W n k u s before after' r' → (after ≡ after') × (r ≡ r')
lists-unique (list-refused {r = j} a e) (list-refused {r = k} b e') = (e ∙ sym e', ap Err (number-one j k (lowest-unique a b)))
lists-unique (list-refused a e) (listed d f g) = absurd (judged-lowest d a)
lists-unique (listed d f g) (list-refused a e) = absurd (judged-lowest d a)
lists-unique {before = before} (listed d f g) (listed d' f' g') =
    let e = findings-unique f f' in (
      g ∙ ap (λ (fs : List Finding). filled fs before) e ∙ sym g',
      ap (λ (fs : List Finding). Ok (length fs)) e,
    )
