-- What a store keeps when a cell is added, and under other names. Assumes nothing.
use Rattle.std.specs.Prelude.{List, ℕ}
use Rattle.store.specs.declared.Counts.{Counts}
use Rattle.store.specs.Cell.{Cell, Follows, With}
use Rattle.store.specs.Cell.Follows.{given}
use Rattle.store.specs.Cell.With.{old, new}
use Rattle.store.specs.Layout.{Holds}
use Rattle.store.specs.Keeps.{Keeps}
use Rattle.store.specs.laws.Least.{follows-all}

-- the same cells given under another name
pub keeps-iff : {W : ℕ} {n : Counts} {G H : Cell → Type 0} {s : List ℕ} → ((c : Cell) → G c → H c) → ((c : Cell) → H c → G c) → Keeps W n G s → Keeps W n H s
keeps-iff f g k = record { store = k.store; sound = λ c h. follows-all (λ d x. given (f d x)) (k.sound c h); whole = λ c h. k.whole c (follows-all (λ d x. given (g d x)) h) }

-- one cell more
pub keeps-step : {W : ℕ} {n : Counts} {G : Cell → Type 0} {d : Cell} {s t : List ℕ} → Keeps W n G s → Keeps W n (With (Holds W n s) d) t → Keeps W n (With G d) t
keeps-step {W} {n} {G} {d} {s} k l = record { store = l.store; sound = λ c h. follows-all from-store (l.sound c h); whole = λ c h. l.whole c (follows-all to-store h) }
  where
    weaken : (e : Cell) → G e → Follows n (With G d) e
    weaken e g = given (old g)

    from-store : (e : Cell) → With (Holds W n s) d e → Follows n (With G d) e
    from-store e (old h) = follows-all weaken (k.sound e h)
    from-store e new = given new

    to-store : (e : Cell) → With G d e → Follows n (With (Holds W n s) d) e
    to-store e (old g) = given (old (k.whole e (given g)))
    to-store e new = given new
