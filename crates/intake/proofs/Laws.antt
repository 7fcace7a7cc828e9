-- What two reads lose, one after the other, and where their bytes lie. Assumes nothing.
use Rattle.std.proofs.Common.{◌≡◌, refl, ◌∙◌, ap, sym, Option, Some, None, List, ◌++◌, ℕ, ◌+◌, ◌≤◌, length, take, append_assoc, length-take-le, take-take, arith}
use Rattle.std.proofs.Math.Seq.{take-append-add}
use Rattle.std.proofs.lemmas.Slice.{take-put_mid}
use Rattle.std.specs.Io.KnownBytes.{Consumes}
use borrow.Rule.Slice.PartMut.{put_mid}

-- first xs and then ys
pub consumes-join : (a b c : Option (List ℕ)) (xs ys : List ℕ) → Consumes a b xs → Consumes b c ys → Consumes a c (xs ++ ys)
consumes-join None b c xs ys h k = tt
consumes-join (Some u) None c xs ys h k = absurd h
consumes-join (Some u) (Some v) None xs ys h k = absurd k
consumes-join (Some u) (Some v) (Some w) xs ys h k = h ∙ ap (λ (z : List ℕ). xs ++ z) k ∙ sym (append_assoc xs ys w)

-- the bytes of a room up to a place, and m bytes of those put behind them
pub take-put : (a k m : ℕ) (xs ys : List ℕ) → a ≤ length xs → m ≤ length ys → take (a + m) (put_mid a k xs ys) ≡ take a xs ++ take m ys
take-put a k m xs ys h l =
    sym (take-take (a + m) (a + length ys) (put_mid a k xs ys) (omega arith))
    ∙ ap (λ (z : List ℕ). take (a + m) z) (take-put_mid a k xs ys (a + length ys) refl h)
    ∙ ap (λ (i : ℕ). take (i + m) (take a xs ++ ys)) (sym (length-take-le a xs h))
    ∙ take-append-add (take a xs) ys m
