-- What is settled of an answer, whichever reason is given.
use Rattle.std.specs.Prelude.{◌≡◌}
use Rattle.finding.specs.Explained.{FindingExplained}
use Rattle.std.specs.Prelude.{Ok, Err}

-- both are a reason with the same concept in which the item is not, or both are the same refusal
abbrev pub SameFinding : FindingExplained → FindingExplained → Type 0
SameFinding (Ok e) (Ok f) = e.absent ≡ f.absent
SameFinding (Ok e) (Err r) = ⊥
SameFinding (Err r) (Ok e) = ⊥
SameFinding (Err r) (Err q) = (r.line ≡ q.line) × (r.why ≡ q.why)
