-- A line by one look at it.
use Rattle.std.specs.Prelude.{◌≡◌, ℕ, zero, suc, ◌+◌, ◌-◌, ◌/◌, ◌%◌, ◌<◌, ◌≤◌, Bool, cond, List, [], ◌∷◌, length, ◌==◌, ◌≢◌, slice_index, slice_set}
use Rattle.std.specs.Int.Count.{count_trailing_zeros}
use Rattle.std.proofs.lemmas.List.Edits.{sets}
use Rattle.text.specs.Bytes.{every}
use Rattle.text.specs.Name.{line_byte}
use Rattle.text.specs.Split.{fields}
use Rattle.text.specs.own.Split.{part_of, end_of}
use Rattle.reader.specs.declared.scan.Scan.{Scan}

-- the line that starts at a place of the text
abbrev pub line_at : List ℕ → ℕ → List ℕ
line_at text at = part_of text at (end_of 10 text at - at)

-- where the parts that the bytes t make end, if the first byte has the place p
unfoldable pub ends_of : ℕ → ℕ → List ℕ → List ℕ
ends_of t p [] = p ∷ []
ends_of t p (b ∷ s) = cond (b == t) (p ∷ ends_of t (suc p) s) (ends_of t (suc p) s)

-- where the part k starts, if the first starts at a place and these are the ends
abbrev pub start_by : ℕ → List ℕ → ℕ → ℕ
start_by at es zero = at
start_by at es (suc k) = slice_index es k + 1

-- the last of the ends was put into the room, after n others: the line that starts at a place ends at i
pub record Closes (room : List ℕ) (at n i : ℕ) (g : Bool) (exit : List ℕ) (r : Scan) : Type 0 where
  pub here : exit ≡ slice_set room n (i - at)
  pub end : r.end ≡ i
  pub count : r.count ≡ n + 1
  pub good : r.good ≡ g

-- one look at the line at a place: the ends of its fields, counted from its start, stand in the room, as far as it reaches
pub record Scanned (text : List ℕ) (at : ℕ) (room exit : List ℕ) (r : Scan) : Type 0 where
  pub end : r.end ≡ end_of 10 text at
  pub count : r.count ≡ length (fields (line_at text at))
  pub good : r.good ≡ every line_byte (line_at text at)
  pub here : exit ≡ sets room 0 (ends_of 9 0 (line_at text at))

-- the room has the ends of the fields of a line, as far as it reaches
abbrev pub Ended : List ℕ → List ℕ → Type 0
Ended line room = (k : ℕ) → k < length (ends_of 9 0 line) → k < length room → slice_index room k ≡ slice_index (ends_of 9 0 line) k

-- from i to r all bytes may stand in a field
pub record Skips (s : List ℕ) (i r : ℕ) : Type 0 where
  pub low : i ≤ r
  pub high : r ≤ length s
  pub plain : (j : ℕ) → i ≤ j → j < r → (32 ≤ slice_index s j) × (slice_index s j ≤ 126)

-- byte j of a number, the lowest first
unfoldable pub byte_of : ℕ → ℕ → ℕ
byte_of x zero = x % 256
byte_of x (suc j) = byte_of (x / 256) j

-- the first r bytes of x, 8 at most, may stand in a field
pub record Plain (x r : ℕ) : Type 0 where
  pub most : r ≤ 8
  pub plain : (j : ℕ) → j < r → (32 ≤ byte_of x j) × (byte_of x j ≤ 126)

-- m is 0 only if all eight bytes of x may stand in a field; otherwise all bytes below the one with its lowest bit may
pub record Masks (x m : ℕ) : Type 0 where
  pub all : m ≡ 0 → Plain x 8
  pub some : (m ≢ 0) → Plain x (count_trailing_zeros 64 m / 8)
