-- Writing one list after another. Assumes nothing.
use Rattle.std.specs.Prelude.{◌≡◌, List, [], ◌∷◌, ◌++◌, ℕ, suc, ◌+◌, length, set}
use Rattle.std.proofs.Common.{◌∙◌, add-zero, arith}
use Rattle.std.proofs.lemmas.List.Edits.{sets}

-- both at once, or the second behind the first
pub sets-append : {A : Type 0} (l : List A) (i : ℕ) (u v : List A) → sets l i (u ++ v) ≡ sets (sets l i u) (i + length u) v
sets-append l i [] v = rw add-zero
sets-append l i (a ∷ u) v =
    let k : suc i + length u ≡ i + suc (length u) = omega arith in
    sets-append (set l i a) (suc i) u v ∙ rw k
