-- A line that was looked at, with room for the ends of all its fields. Assumes nothing.
use Rattle.std.specs.Prelude.{◌≡◌, Bool, true, false, cond, List, [], ◌∷◌, ℕ, suc, ◌≤◌, ◌<◌, min, eqb, length, take}
use Rattle.std.proofs.Common.{ap, ◌∙◌, arith, get_or-take, length-take-le}
use Rattle.std.proofs.Math.Seq.{length-sets}
use Rattle.text.specs.Split.{fields}
use Rattle.reader.specs.declared.scan.Scan.{Scan}
use Rattle.reader.specs.own.Scan.{Scanned, ends_of, line_at}
use Rattle.reader.specs.laws.Ends.{ends-count, scanned-ended}
use Rattle.field.specs.own.Line.{Looked}

-- a line has one field more than bytes at most
pub fields-few : (line : List ℕ) → length (fields line) ≤ suc (length line)
unfolding ends_of
fields-few line = omega (arith, ends-count line, ends-few 0 line)
  where
    ends-few : (p : ℕ) (l : List ℕ) → length (ends_of 9 p l) ≤ suc (length l)
    ends-few p [] = omega arith
    ends-few p (b ∷ l) = go (eqb b 9) (ends-few (suc p) l)
      where
        go : (c : Bool) → length (ends_of 9 (suc p) l) ≤ suc (length l) → length (cond c (p ∷ ends_of 9 (suc p) l) (ends_of 9 (suc p) l)) ≤ suc (suc (length l))
        go true h = omega arith
        go false h = omega arith

-- the first of the ends that a look left are those of the fields, if the line is shorter than the room
pub looked : {text room exit : List ℕ} {at : ℕ} {r : Scan} → Scanned text at room exit r → (n : ℕ) → n ≡ min r.count (length room) → length (line_at text at) < length room → Looked (line_at text at) (take n exit)
looked {text} {room} {exit} {at} {r} s n is h =
    let long : length exit ≡ length room = ap length s.here ∙ length-sets room 0 (ends_of 9 0 (line_at text at)) in
    let count : n ≡ length (fields (line_at text at)) = omega (arith, s.count, fields-few (line_at text at)) in
    record {
      ended = λ k few reach. get_or-take n exit k 0 (omega (arith, taken long count)) ∙ scanned-ended s k few (omega (arith, long, taken long count));
      count = taken long count ∙ count;
    }
  where
    taken : length exit ≡ length room → n ≡ length (fields (line_at text at)) → length (take n exit) ≡ n
    taken long count = length-take-le n exit (omega arith)
