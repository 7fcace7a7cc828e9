-- Choices by a test. Assumes nothing.
use Rattle.std.specs.Prelude.{◌≡◌, refl, Bool, true, false, cond, ℕ, ◌≤◌, ◌<◌, leb}
use Rattle.std.proofs.Common.{sym, true≢false, leb-true, leb-false}

-- what holds of both sides of a choice holds of the choice
pub cond_both : {A : Type 0} (P : A → Type 0) (e : Bool) {a b : A} → P a → P b → P (cond e a b)
cond_both P true x y = x
cond_both P false x y = y

-- two tests, the second asked after the first: where the answer is yes, both hold
pub cond-true : (x y : Bool) → cond x y false ≡ true → (x ≡ true) × (y ≡ true)
cond-true true y e = (refl, e)
cond-true false y e = absurd (true≢false (sym e))

-- two tests that say yes together are the same
pub bool_same : (x y : Bool) → (x ≡ true → y ≡ true) → (y ≡ true → x ≡ true) → x ≡ y
bool_same true true f g = refl
bool_same true false f g = sym (f refl)
bool_same false true f g = g refl
bool_same false false f g = refl

-- one of two numbers is at most the other
pub le-cases : {P : Type 0} (a b : ℕ) → (a ≤ b → P) → (b < a → P) → P
le-cases {P} a b f g = go (leb a b) refl
  where
    go : (e : Bool) → leb a b ≡ e → P
    go true q = f (leb-true a b q)
    go false q = g (leb-false a b q)
