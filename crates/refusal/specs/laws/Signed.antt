-- Laws of answers as signed numbers. Assumes nothing.
use Rattle.std.specs.Prelude.{◌≡◌, ℕ, ◌<◌, ◌≤◌, ◌^◌, Result, Ok}
use Rattle.std.specs.Result.{ForOk}
use Rattle.std.proofs.Common.{subst, arith}
use Rattle.refusal.specs.Signed.{AtMost}

-- an answer of at most so many, which a signed number can be, is one that can be a signed number
pub at_most-fits : {K : Type 0} {n : ℕ} (r : Result ℕ K) → n < 2 ^ 63 → AtMost n r → ForOk r (λ m. m < 2 ^ 63)
at_most-fits {K} {n} r small h m e = let there : m ≤ n = subst (AtMost n) e h in omega arith
