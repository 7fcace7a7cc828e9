-- Laws of the answers as signed numbers. Assumes nothing.
use Rattle.std.specs.Prelude.{◌≡◌, List, ℕ, ◌<◌, ◌^◌, ℤ}
use Rattle.std.proofs.Common.{ap, sym, ◌∙◌, arith}
use Rattle.row.specs.Bit.{Words}
use Rattle.store.specs.declared.Counts.{Counts}
use Rattle.store.specs.Cell.{Cell}
use Rattle.store.specs.Layout.{width_of}
use Rattle.store.specs.laws.Width.{size_small, width-wide}
use Rattle.closure.specs.Refusal.{Answer}
use Rattle.std.specs.Prelude.{Err, Ok}
use Rattle.closure.specs.Promise.{Adds}
use Rattle.closure.specs.laws.Refusals.{adds-small, adds-unique}
use Rattle.batch.specs.Codes.{AddCode, code_of}
use Rattle.std.specs.Result.{ForOk}
use Rattle.refusal.specs.laws.Signed.{at_most-fits}
use Rattle.batch.specs.own.Small.{Small}

-- the answers of adding a statement are small
pub adds-code : {n : Counts} {c : Cell} {s t : List ℕ} (r : Answer) → Words 64 t → Adds (width_of s) n c s t r → Small r
adds-code {s = s} (Ok m) w x = omega (arith, adds-small w x, size_small (width-wide s))
adds-code (Err k) w x = tt

-- and can be signed numbers
pub adds-fits : {n : Counts} {c : Cell} {s t : List ℕ} (r : Answer) → Words 64 t → Adds (width_of s) n c s t r → ForOk r (λ m. m < 2 ^ 63)
adds-fits r w x = at_most-fits r (omega arith) (adds-code r w x)

-- adding a statement allows one result
pub add-code-unique : {n : Counts} {c : Cell} {s t t' : List ℕ} {r r' : ℤ} → Words 64 t → Words 64 t' → AddCode n c s t r → AddCode n c s t' r' → (t ≡ t') × (r ≡ r')
add-code-unique w w' x y = let e = adds-unique w w' x.adds y.adds in (e.0, x.code ∙ ap code_of e.1 ∙ sym y.code)
