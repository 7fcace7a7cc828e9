-- Laws of the answer of a conversion as a signed number. Assumes nothing.
use Rattle.std.specs.Prelude.{◌≡◌, List, ℕ, ◌*◌, ◌<◌, ◌^◌, ℤ}
use Rattle.std.proofs.Common.{ap, sym, ◌∙◌, arith}
use Rattle.logic.specs.laws.Number.{number-unique}
use Rattle.row.specs.Bit.{Words}
use Rattle.row.specs.laws.Count.{total-le}
use Rattle.store.specs.declared.Counts.{Counts}
use Rattle.store.specs.laws.Cells.{cells-number}
use Rattle.store.specs.laws.Width.{size_small, width-wide}
use Rattle.convert.specs.Promise.{Answer}
use Rattle.std.specs.Prelude.{Err, Ok}
use Rattle.convert.specs.Codes.{ConvertCode, code_of}
use Rattle.convert.specs.Promise.{Converts}
use Rattle.convert.specs.Promise.Converts.{moved}
use Rattle.std.specs.Result.{ForOk}
use Rattle.refusal.specs.laws.Signed.{at_most-fits}
use Rattle.convert.specs.own.Small.{Small}
use Rattle.convert.proofs.laws.Refusals.{converts-unique, none-closed}

-- the answer is small
pub converts-code : {n : Counts} {s t u : List ℕ} (r : Answer) → Words 64 s → Converts n s t u r → Small r
converts-code {s = s} (Ok m) w (moved f x c) =
    let k = none-closed f in
    omega (arith, number-unique c (cells-number k w), total-le 64 s w, ap (λ (y : ℕ). 64 * y) k.long, size_small (width-wide s))
converts-code (Err k) w x = tt

-- and can be a signed number
pub converts-fits : {n : Counts} {s t u : List ℕ} (r : Answer) → Words 64 s → Converts n s t u r → ForOk r (λ m. m < 2 ^ 63)
converts-fits r w x = at_most-fits r (omega arith) (converts-code r w x)

-- it allows one result
pub convert-code-unique : {n : Counts} {s t u v : List ℕ} {r q : ℤ} → Words 64 u → Words 64 v → ConvertCode n s t u r → ConvertCode n s t v q → (u ≡ v) × (r ≡ q)
convert-code-unique w y a b = let e = converts-unique w y a.converts b.converts in (e.0, a.code ∙ ap code_of e.1 ∙ sym b.code)
