-- Laws of fields by their number. Assumes nothing.
use Rattle.std.specs.Prelude.{◌≡◌, List, [], ℕ, ◌+◌, ◌-◌, drop, length}
use Rattle.std.proofs.Common.{arith, length-drop, get_or-drop}
use Rattle.text.specs.Split.{fields}
use Rattle.field.specs.Words.{Field, at}
use Rattle.field.specs.own.Line.{Looked}

-- a field of those from the number k on
pub field-from : (fs : List Field) (k i : ℕ) → at (k + i) fs ≡ at i (drop k fs)
field-from fs k i = rw (get_or-drop k fs i [])

-- the first of them
pub first-from : (fs : List Field) (k : ℕ) → at k fs ≡ at 0 (drop k fs)
first-from fs k = let z : k ≡ k + 0 = omega arith in rw (get_or-drop k fs 0 [], ← z)

-- how many they are, by the ends of the fields
pub rest-count : {line ends : List ℕ} (from : ℕ) {r : ℕ} → Looked line ends → r ≡ length ends - from → r ≡ length (drop from (fields line))
rest-count {line} {ends} from {r} l e = omega (arith, l.count, length-drop from (fields line))

-- what is made of the same three parts is the same
pub ap₃ : {A B C D : Type 0} (f : A → B → C → D) {a b : A} {c d : B} {e g : C} → a ≡ b → c ≡ d → e ≡ g → f a c e ≡ f b d g
ap₃ f p q r = rw (p, q, r)
