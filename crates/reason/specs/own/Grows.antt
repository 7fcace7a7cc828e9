-- What the search rests on: what follows from some statements follows from more.
use Rattle.std.specs.Prelude.{List}
use Rattle.logic.specs.Number.{One}

-- what is enough stays enough with more elements, in whatever order and however often
abbrev pub Grows : {A : Type 0} → (List A → Type 0) → Type 0
Grows {A} Enough = (xs ys : List A) → ((x : A) → One x xs → One x ys) → Enough xs → Enough ys
