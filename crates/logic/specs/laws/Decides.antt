-- Laws of tests that decide. Assumes nothing.
use Rattle.std.specs.Prelude.{◌≡◌, refl, Bool, true, false, not, ◌&&◌, ℕ, ◌≤◌, ◌<◌, ltb, leb, eqb}
use Rattle.std.proofs.Common.{sym, ◌∙◌, true≢false, arith, ltb-true, ltb-false, leb-true, leb-false, eqb-true}
use Rattle.std.proofs.lemmas.Bool.{false≢true, eqb-false}
use Rattle.logic.specs.own.Decides.{Decides}

-- a test that said yes, and one that said no
pub decides-yes : {P : Type 0} → P → Decides true P
decides-yes p = record { holds = λ e. p; fails = λ e. absurd (true≢false e) }

pub decides-no : {P : Type 0} → ¬ P → Decides false P
decides-no p = record { holds = λ e. absurd (true≢false (sym e)); fails = λ e. p }

-- the same answer decides what means the same
pub decides-iff : {r : Bool} {P Q : Type 0} → (P → Q) → (Q → P) → Decides r P → Decides r Q
decides-iff f g d = record { holds = λ e. f (d.holds e); fails = λ e q. d.fails e (g q) }

-- a test that is asked only where another holds
pub decides-when : {r on : Bool} {P : Type 0} → on ≡ true → Decides r P → Decides r (on ≡ true → P)
decides-when o d = record { holds = λ e x. d.holds e; fails = λ e f. d.fails e (f o) }

pub decides-off : {on : Bool} {P : Type 0} → on ≡ false → Decides true (on ≡ true → P)
decides-off o = decides-yes (λ x. absurd (true≢false (sym x ∙ o)))

-- comparisons of numbers
pub decides-lt : (a b : ℕ) → Decides (ltb a b) (a < b)
decides-lt a b = record { holds = ltb-true a b; fails = λ e l. omega (arith, ltb-false a b e) }

pub decides-le : (a b : ℕ) → Decides (leb a b) (a ≤ b)
decides-le a b = record { holds = leb-true a b; fails = λ e l. omega (arith, leb-false a b e) }

pub decides_eq : (a b : ℕ) → Decides (eqb a b) (a ≡ b)
decides_eq a b = record { holds = eqb-true a b; fails = eqb-false a b }

pub decides_eqb : (a b : ℕ) {P : Type 0} → (a ≡ b → P) → (P → a ≡ b) → Decides (eqb a b) P
decides_eqb a b f g = decides-iff f g (decides_eq a b)

-- both of two tests
pub decides-both : {r a b : Bool} {P Q : Type 0} → Decides a P → Decides b Q → r ≡ (a && b) → Decides r (P × Q)
decides-both {a = true} d e q = record { holds = λ t. (d.holds refl, e.holds (sym q ∙ t)); fails = λ t x. e.fails (sym q ∙ t) x.1 }
decides-both {a = false} d e q = record { holds = λ t. absurd (false≢true (sym q ∙ t)); fails = λ t x. d.fails refl x.0 }

-- a test turned round
pub decides_not : {a : Bool} {P : Type 0} → Decides a P → Decides (not a) (¬ P)
decides_not {a = true} d = record { holds = λ t. absurd (false≢true t); fails = λ t f. f (d.holds refl) }
decides_not {a = false} d = record { holds = λ t. d.fails refl; fails = λ t. absurd (true≢false t) }

-- the first part holds, and a test decides the rest
pub decides-with : {r : Bool} {P Q : Type 0} → P → Decides r Q → Decides r (P × Q)
decides-with p d = decides-iff (λ x. (p, x)) (λ x. x.1) d

-- the first part fails
pub decides-without : {P Q : Type 0} → ¬ P → Decides false (P × Q)
decides-without x = decides-no (λ y. x y.0)

-- a loop found that P holds of every number below n
pub decides-all : {P : ℕ → Type 0} {n i : ℕ} → n ≤ i → ((k : ℕ) → k < i → P k) → Decides true ((k : ℕ) → k < n → P k)
decides-all l f = decides-yes (λ k m. f k (omega arith))

-- a loop found a number below n of which P does not hold
pub decides-not-all : {P : ℕ → Type 0} {n i : ℕ} → i < n → ¬ (P i) → Decides false ((k : ℕ) → k < n → P k)
decides-not-all {i = i} l x = decides-no (λ f. x (f i l))
