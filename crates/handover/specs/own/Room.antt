-- How a text is handed over.
use Rattle.std.specs.Prelude.{◌≡◌, List, ℕ}

-- the text t and no other
abbrev pub Just : List ℕ → List ℕ → Type 0
Just t u = u ≡ t
