-- What a test's answer says.
use Rattle.std.specs.Prelude.{◌≡◌, Bool, true, false}

-- the answer r is true exactly if P holds
pub record Decides (r : Bool) (P : Type 0) : Type 0 where
  pub holds : r ≡ true → P
  pub fails : r ≡ false → ¬ P
