-- The answer of a conversion as a signed number.
use Rattle.std.specs.Prelude.{◌≡◌, List, ℕ, ℤ, pos, neg_ℤ}
use Rattle.store.specs.declared.Counts.{Counts}
use Rattle.convert.specs.Promise.{Answer}
use Rattle.std.specs.Prelude.{Err, Ok}
use Rattle.refusal.specs.Signed.{signed_of}
use Rattle.convert.specs.Promise.{Converts, number}

-- the cells, or minus the number of refusal
abbrev pub code_of : Answer → ℤ
code_of = signed_of number

-- converting the store s leaves u of the target t and gives r
pub record ConvertCode (n : Counts) (s t u : List ℕ) (r : ℤ) : Type 0 where
  pub answer : Answer
  pub converts : Converts n s t u answer
  pub code : r ≡ code_of answer
