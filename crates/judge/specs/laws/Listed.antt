-- Laws of the list of what has a property, as findings in order. Assumes nothing.
use Rattle.std.specs.Prelude.{◌≡◌, List, ◌∷◌, ℕ}
use Rattle.std.proofs.Common.{sym, ap, inl, inr, arith}
use Rattle.logic.specs.Number.{One}
use Rattle.store.specs.declared.Counts.{Counts}
use Rattle.store.specs.Cell.{Cell}
use Rattle.rule.specs.declared.Finding.{Finding}
use Rattle.rule.specs.declared.Rule.{Rule}
use Rattle.rule.specs.Second.{Second}
use Rattle.rule.specs.Breaks.{Breaks}
use Rattle.rule.specs.Findings.{Before, Findings, InOrder, SecondBefore, finding_of}
use Rattle.rule.specs.Findings.InOrder.{more}
use Rattle.judge.specs.own.Cursor.{Listed}
use Rattle.std.specs.Prelude.{None, Some}

-- ---- the order

second-self : (s : Second) → SecondBefore s s → ⊥
second-self None x = x
second-self (Some i) x = omega arith

before_self : (f : Finding) → Before f f → ⊥
before_self f (inl x) = omega arith
before_self f (inr x) = second-self f.second x.1

-- the first finding of a list in order is not one of the rest
pub order-apart : {f : Finding} {fs : List Finding} → InOrder (f ∷ fs) → ¬ (One f fs)
order-apart {f} (more p a) o = before_self f (p f o)

-- the rest is in order
pub order-rest : {f : Finding} {fs : List Finding} → InOrder (f ∷ fs) → InOrder fs
order-rest (more p a) = a

-- and the first comes before each of it
pub order-before : {f g : Finding} {fs : List Finding} → InOrder (f ∷ fs) → One g fs → Before f g
order-before {g = g} (more p a) o = p g o

-- a finding is made of its number, its item and its second item
pub finding-parts : {number : ℕ} (f : Finding) → f.rule ≡ number → finding_of number f.item.0 f.second ≡ f
finding-parts f e = ap (λ (k : ℕ). finding_of k f.item.0 f.second) (sym e)

-- ---- the list

-- what means the same has the same list
pub listed-iff : {number : ℕ} {P Q : ℕ → Second → Type 0} {fs : List Finding} → ((x : ℕ) (s : Second) → P x s → Q x s) → ((x : ℕ) (s : Second) → Q x s → P x s) → Listed number P fs → Listed number Q fs
listed-iff f g a = record { ordered = a.ordered; sound = λ h o. let q = a.sound h o in (q.0, f h.item.0 h.second q.1); whole = λ x s q. a.whole x s (g x s q) }

-- the findings of a rule are the list of what breaks it
pub findings-listed : {C : Cell → Type 0} {n : Counts} {number : ℕ} {u : Rule} {fs : List Finding} → Findings C n number u fs → Listed number (Breaks C n u) fs
findings-listed a = record { ordered = a.ordered; sound = a.sound; whole = a.whole }
