-- Laws of names. Assumes nothing.
use Rattle.std.specs.Prelude.{◌≡◌, Bool, true, false, List, ℕ, ◌≤◌, length}
use Rattle.std.proofs.Common.{true≢false, le-leb}
use Rattle.std.proofs.lemmas.Bool.{lt-leb}
use Rattle.text.specs.Name.{is_name, name_limit}
use Rattle.text.specs.laws.Choice.{le-cases}

-- a name has 1 to 24 bytes
pub name-bounds : (w : List ℕ) → is_name w ≡ true → (1 ≤ length w) × (length w ≤ name_limit)
unfolding is_name
name-bounds w e =
    le-cases 1 (length w)
    (λ h. le-cases (length w) 24 (λ g. (h, g)) (λ g. let z : ◌≡◌ {A = Bool} true false = cc (lt-leb _ _ g, le-leb _ _ h, e) in absurd (true≢false z)))
    (λ h. let z : ◌≡◌ {A = Bool} true false = cc (lt-leb _ _ h, e) in absurd (true≢false z))
