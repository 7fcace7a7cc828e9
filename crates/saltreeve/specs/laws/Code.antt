-- Laws of the answers as signed numbers. Assumes nothing.
use Rattle.std.specs.Prelude.{◌≡◌, List, ℕ, ◌<◌, ◌^◌, ℤ}
use Rattle.std.proofs.Common.{ap, ◌∙◌, sym, arith}
use Rattle.row.specs.Bit.{Words}
use Rattle.store.specs.declared.Counts.{Counts}
use Rattle.closure.specs.Refusal.{Answer}
use Rattle.std.specs.Prelude.{Err, Ok}
use Rattle.store.specs.Layout.{width_of}
use Rattle.store.specs.laws.Width.{width-wide}
use Rattle.closure.specs.Promise.{Makes}
use Rattle.closure.specs.laws.Refusals.{makes-unique, makes-small}
use Rattle.batch.specs.Codes.{code_of}
use Rattle.std.specs.Result.{ForOk}
use Rattle.refusal.specs.laws.Signed.{at_most-fits}
use Rattle.batch.specs.own.Small.{Small}
use Rattle.saltreeve.specs.Code.{FreshCode}

-- the answer of making a fresh store is small
pub makes-code : {n : Counts} {s t : List ℕ} (r : Answer) → Makes (width_of s) n s t r → Small r
makes-code {s = s} (Ok m) x = omega (arith, makes-small x, width-wide s)
makes-code (Err k) x = tt

-- and can be a signed number
pub makes-fits : {n : Counts} {s t : List ℕ} (r : Answer) → Makes (width_of s) n s t r → ForOk r (λ m. m < 2 ^ 63)
makes-fits r x = at_most-fits r (omega arith) (makes-code r x)

-- it allows one result
pub fresh-code-unique : {n : Counts} {s t t' : List ℕ} {r r' : ℤ} → Words 64 t → Words 64 t' → FreshCode n s t r → FreshCode n s t' r' → (t ≡ t') × (r ≡ r')
fresh-code-unique w w' x y = let e = makes-unique w w' x.makes y.makes in (e.0, x.code ∙ ap code_of e.1 ∙ sym y.code)
