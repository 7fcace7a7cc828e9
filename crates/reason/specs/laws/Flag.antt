-- Laws of flags joined, and of what they decide. Assumes nothing.
use Rattle.std.specs.Prelude.{◌≡◌, refl, ◌⊎◌, Bool, true, false, ◌&&◌, ◌||◌}
use Rattle.std.proofs.Common.{inl, inr, ⊎_elim, true≢false}
use Rattle.std.proofs.lemmas.Bool.{false≢true}
use Rattle.logic.specs.own.Decides.{Decides}

pub both-on : (a b : Bool) → a ≡ true → b ≡ true → (a && b) ≡ true
both-on true b e f = f
both-on false b e f = e

pub left-on : (a b : Bool) → (a && b) ≡ true → a ≡ true
left-on true b e = refl
left-on false b e = e

pub right-on : (a b : Bool) → (a && b) ≡ true → b ≡ true
right-on true b e = e
right-on false b e = absurd (false≢true e)

-- what holds is told
pub decided : {a : Bool} {P : Type 0} → Decides a P → P → a ≡ true
decided {a = true} d p = refl
decided {a = false} d p = absurd (d.fails refl p)

-- one of two tests
pub decides-either : {a b : Bool} {P Q : Type 0} → Decides a P → Decides b Q → Decides (a || b) (P ⊎ Q)
decides-either {a = true} d e = record { holds = λ q. inl (d.holds refl); fails = λ q. absurd (true≢false q) }
decides-either {a = false} d e = record { holds = λ q. inr (e.holds q); fails = λ q. ⊎_elim (d.fails refl) (e.fails q) }
