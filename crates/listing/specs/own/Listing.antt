-- What a writer leaves in the caller's list.
use Rattle.std.specs.Prelude.{◌≡◌, List, ◌++◌, ℕ, length, drop}
use Rattle.rule.specs.declared.Finding.{Finding}

-- n findings are written into the list l, from its start: those that were met on the way to c; and the list is m
pub record WroteTo {C : Type 0} (Met : List Finding → C → Type 0) (l : List Finding) (n : ℕ) (c : C) (m : List Finding) : Type 0 where
  pub found : List Finding
  pub met : Met found c
  pub count : length found ≡ n
  pub list : m ≡ found ++ drop n l

-- n findings are written into the list l, which is then m
pub record Written {C : Type 0} (Met : List Finding → C → Type 0) (n : ℕ) (l m : List Finding) : Type 0 where
  pub last : C
  pub wrote : WroteTo Met l n last m
