-- What is settled of an answer, whichever reason is given.
use Rattle.std.specs.Prelude.{◌≡◌}
use Rattle.why.specs.Explained.{Explained}
use Rattle.std.specs.Prelude.{Ok, Err}

-- both are a reason, or both are the same refusal
abbrev pub SameAnswer : Explained → Explained → Type 0
SameAnswer (Ok m) (Ok j) = Unit {0}
SameAnswer (Ok m) (Err r) = ⊥
SameAnswer (Err r) (Ok m) = ⊥
SameAnswer (Err r) (Err q) = (r.line ≡ q.line) × (r.why ≡ q.why)
