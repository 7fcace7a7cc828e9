-- Laws of a text in a lent room. Assumes nothing.
use Rattle.std.specs.Prelude.{◌≡◌, refl, List, ◌++◌, ℕ, ◌≤◌, ◌<◌, ℤ, pos, neg_ℤ, length, drop, take}
use Rattle.std.proofs.Common.{sym, ap, ◌∙◌, subst, arith, length-take-le}
use Rattle.text.specs.Text.{Wrote}
use Rattle.text.specs.laws.Text.{wrote-whole}
use Rattle.handover.specs.Room.{InRoom}
use Rattle.handover.specs.Room.InRoom.{too_long, written}
use Rattle.handover.specs.own.Room.{Just}

-- ---- bytes that are handed over

module _ (own room : List ℕ) (n : ℕ) (fits : n ≤ length own) where
  long : length (take n own) ≡ n
  long = length-take-le n own fits

  -- bytes that are more than the room
  pub hand-long : length room < n → InRoom (Just (take n own)) room room (neg_ℤ (pos 8))
  hand-long h = too_long refl (omega (arith, long)) refl

  -- bytes that fit
  pub hand-written : {exit : List ℕ} {r : ℕ} → n ≤ length room → Wrote room 0 (take n own) exit r → InRoom (Just (take n own)) room exit (pos n)
  hand-written {exit} l w = subst (λ (i : ℕ). InRoom (Just (take n own)) room exit (pos i)) long (written refl (omega (arith, long)) (wrote-whole w (omega (arith, long))))

-- the one text is one of which Text holds
pub in-room : {Text : List ℕ → Type 0} {t room exit : List ℕ} {r : ℤ} → Text t → InRoom (Just t) room exit r → InRoom Text room exit r
in-room {Text} h (too_long e l x) = too_long (subst Text (sym e) h) l x
in-room {Text} h (written e l x) = written (subst Text (sym e) h) l x

-- ---- one result

-- where there is one text there is one room and one number
pub room-unique : {Text : List ℕ → Type 0} {room exit other : List ℕ} {r q : ℤ} → ((t u : List ℕ) → Text t → Text u → t ≡ u) → InRoom Text room exit r → InRoom Text room other q → (exit ≡ other) × (r ≡ q)
room-unique one (too_long a h e) (too_long b l f) = (e ∙ sym f, refl)
room-unique one (too_long a h e) (written b l f) = absurd (omega (arith, ap length (one _ _ a b)))
room-unique one (written a h e) (too_long b l f) = absurd (omega (arith, ap length (one _ _ a b)))
room-unique {room = room} one (written a h e) (written b l f) =
    let z = one _ _ a b in
    (e ∙ ap (λ (t : List ℕ). t ++ drop (length t) room) z ∙ sym f, ap (λ (t : List ℕ). pos (length t)) z)

-- ---- a room that always suffices

-- where no text is longer, a room of so many bytes has the text
pub room-written : {Text : List ℕ → Type 0} {room exit : List ℕ} {r : ℤ} (most : ℕ) → ((t : List ℕ) → Text t → length t ≤ most) → most ≤ length room → InRoom Text room exit r
    → (t : List ℕ) × Text t × (exit ≡ t ++ drop (length t) room) × (r ≡ pos (length t))
room-written most short l (too_long {text = t} h g x) = absurd (omega (arith, short t h))
room-written most short l (written {text = t} h g x) = (t, h, x, refl)
