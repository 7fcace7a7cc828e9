-- Laws of the answers to questions as signed numbers. Assumes nothing.
use Rattle.std.specs.Prelude.{◌≡◌, List, ℕ, ◌≤◌, ◌<◌, pos, neg_ℤ, length}
use Rattle.std.proofs.Common.{subst, arith}
use Rattle.store.specs.Layout.{small}
use Rattle.answer.specs.Promise.{Replies}
use Rattle.saltreeve.specs.Why.{Whys}
use Rattle.handover.specs.Room.InRoom.{too_long, written}

module _ {sheet question room exit : List ℕ} {n : ℕ} (w : Replies small sheet question room exit n) where
  -- a text that has no place in the room
  pub why-long : length room < n → Whys sheet question room exit (neg_ℤ (pos 8))
  why-long h = too_long w.answers (omega (arith, w.fitted.long)) (w.fitted.left (omega (arith, w.fitted.long)))

  -- one that has
  pub why-written : n ≤ length room → Whys sheet question room exit (pos n)
  why-written h =
      let e : length w.text ≡ n = omega (arith, w.fitted.long) in
      subst (λ (k : ℕ). Whys sheet question room exit (pos k)) e (written w.answers (omega (arith, e)) (w.fitted.written (omega (arith, e))))
