-- Laws of the ends of parts. Assumes nothing.
use Rattle.std.specs.Prelude.{◌≡◌, ℕ, zero, suc, ◌+◌, ◌-◌, ◌<◌, ◌≤◌, Bool, true, false, cond, List, [], ◌∷◌, length, get_or, ◌==◌, ◌≢◌, slice_index, slice_index_or, slice_set, refl}
use Rattle.std.proofs.Common.{sym, ap, ◌∙◌, subst, arith, add-one, length-set, drop-cons, get_or-set_same, get_or-set_other, take_all}
use Rattle.std.proofs.lemmas.List.Edits.{sets}
use Rattle.std.proofs.Math.Seq.{length-sets}
use Rattle.text.specs.Split.{fields, split, onto}
use Rattle.text.specs.own.Split.{part_of, end_of}
use Rattle.reader.specs.own.Scan.{Ended, Scanned, ends_of, line_at, start_by}
use Rattle.reader.specs.declared.scan.Scan.{Scan}
use Rattle.text.specs.laws.Split.{split-cut, end-here, end_on, end-out, end_ge, end-le}
use Rattle.text.specs.laws.Chunk.{part_length, part-part}

-- there are as many as parts
onto-length : (t b : ℕ) (u : List ℕ) → length (onto b (split t u)) ≡ length (split t u)
onto-length t b u = rw split-cut

pub ends-length : (t p : ℕ) (s : List ℕ) → length (ends_of t p s) ≡ length (split t s)
unfolding ends_of split
ends-length t p [] = refl
ends-length t p (b ∷ s) = go (b == t) (ends-length t (suc p) s)
  where
    go : (e : Bool) → length (ends_of t (suc p) s) ≡ length (split t s)
        → length (cond e (p ∷ ends_of t (suc p) s) (ends_of t (suc p) s)) ≡ length (cond e ([] ∷ split t s) (onto b (split t s)))
    go true h = ap suc h
    go false h = h ∙ sym (onto-length t b s)

-- the line at a place: nothing where it ends there, and one byte more where it goes on
module _ (s : List ℕ) (i : ℕ) where
  pub line-none : length s ≤ i → line_at s i ≡ []
  line-none h = let z : end_of 10 s i - i ≡ 0 = omega (arith, end-out 10 s i h) in rw z

  pub line-stop : i < length s → slice_index s i ≡ 10 → line_at s i ≡ []
  line-stop h e = let z : end_of 10 s i - i ≡ 0 = omega (arith, end-here 10 s i h e) in rw z

  pub line_on : i < length s → (slice_index s i ≢ 10) → line_at s i ≡ slice_index s i ∷ line_at s (i + 1)
  line_on h e =
      let z : end_of 10 s i - i ≡ suc (end_of 10 s (i + 1) - (i + 1)) = omega (arith, end_on 10 s i h e, end_ge 10 s (i + 1)) in
      rw (z, drop-cons s i 0, add-one)

-- ---- the parts by their ends

-- the parts of the bytes from a place on: each starts past the end of the one before
abbrev parts_by : List ℕ → ℕ → List ℕ → List (List ℕ)
parts_by s at [] = []
parts_by s at (e ∷ es) = part_of s at (e - at) ∷ parts_by s (e + 1) es

-- the first end, and that it is not before the start
record First (q : ℕ) (es : List ℕ) : Type 0 where
  pub e : ℕ
  pub rest : List ℕ
  pub is : es ≡ e ∷ rest
  pub low : q ≤ e

ends-first : (t q : ℕ) (l : List ℕ) → First q (ends_of t q l)
unfolding ends_of
ends-first t q [] = record { e = q; rest = []; is = refl; low = omega arith }
ends-first t q (b ∷ l) = go (b == t) (ends-first t (suc q) l)
  where
    go : (x : Bool) → First (suc q) (ends_of t (suc q) l) → First q (cond x (q ∷ ends_of t (suc q) l) (ends_of t (suc q) l))
    go true f = record { e = q; rest = ends_of t (suc q) l; is = refl; low = omega arith }
    go false f = record { e = f.e; rest = f.rest; is = f.is; low = omega (arith, f.low) }

-- one byte more before the first part
grown : (u : List ℕ) (p : ℕ) (es : List ℕ) → p < length u → First (suc p) es → onto (slice_index u p) (parts_by u (suc p) es) ≡ parts_by u p es
grown u p es h f =
    let z : f.e - p ≡ suc (f.e - suc p) = omega (arith, f.low) in
    rw f.is (rw (z, drop-cons u p 0))

parts-by : (t : ℕ) (u : List ℕ) (m p : ℕ) → p + m ≤ length u → split t (part_of u p m) ≡ parts_by u p (ends_of t p (part_of u p m))
unfolding ends_of split
parts-by t u zero p h = let z : p - p ≡ 0 = omega arith in rw z
parts-by t u (suc m) p h =
    let k : p < length u = omega arith in
    rw (drop-cons u p 0 k) (go (slice_index u p == t) (parts-by t u m (suc p) (omega arith)))
  where
    go : (x : Bool) → split t (part_of u (suc p) m) ≡ parts_by u (suc p) (ends_of t (suc p) (part_of u (suc p) m))
        → cond x ([] ∷ split t (part_of u (suc p) m)) (onto (slice_index u p) (split t (part_of u (suc p) m)))
        ≡ parts_by u p (cond x (p ∷ ends_of t (suc p) (part_of u (suc p) m)) (ends_of t (suc p) (part_of u (suc p) m)))
    go true q = let z : p - p ≡ 0 = omega arith in rw (z, add-one, q)
    go false q = rw q (grown u p (ends_of t (suc p) (part_of u (suc p) m)) (omega arith) (ends-first t (suc p) (part_of u (suc p) m)))

-- the fields of a line
fields-by : (line : List ℕ) → fields line ≡ parts_by line 0 (ends_of 9 0 line)
fields-by line =
    let z : part_of line 0 (length line) ≡ line = take_all (length line) line (omega arith) in
    rw z at (parts-by 9 line (length line) 0 (omega arith))

-- one of the parts
part_at : (s : List ℕ) (at : ℕ) (es : List ℕ) (k : ℕ) → k < length es → slice_index_or (parts_by s at es) k [] ≡ part_of s (start_by at es k) (slice_index es k - start_by at es k)
part_at s at [] k h = absurd (omega arith)
part_at s at (e ∷ es) zero h = refl
part_at s at (e ∷ es) (suc zero) h = part_at s (e + 1) es zero (omega arith)
part_at s at (e ∷ es) (suc (suc k)) h = part_at s (e + 1) es (suc k) (omega arith)

-- ---- what was written into a room

sets-before : (vs l : List ℕ) (i j : ℕ) → j < i → slice_index (sets l i vs) j ≡ slice_index l j
sets-before [] l i j h = refl
sets-before (v ∷ vs) l i j h = sets-before vs (slice_set l i v) (suc i) j (omega arith) ∙ get_or-set_other l i j v 0 (λ q. omega arith)

sets-at : (vs l : List ℕ) (i k : ℕ) → k < length vs → i + k < length l → slice_index (sets l i vs) (i + k) ≡ slice_index vs k
sets-at [] l i k h g = absurd (omega arith)
sets-at (v ∷ vs) l i zero h g =
    let z : i + 0 ≡ i = omega arith in
    rw z (sets-before vs (slice_set l i v) (suc i) i (omega arith) ∙ get_or-set_same l i v 0 (omega arith))
sets-at (v ∷ vs) l i (suc k) h g =
    let z : i + suc k ≡ suc i + k = omega arith in
    rw z (sets-at vs (slice_set l i v) (suc i) k (omega arith) (rw length-set (omega arith)))

-- ---- a part lies between its start and the end of the bytes

pub record Between (p top : ℕ) (es : List ℕ) (k : ℕ) : Type 0 where
  pub low : start_by p es k ≤ slice_index es k
  pub high : get_or es k 0 ≤ top

shifted : (p top : ℕ) (es : List ℕ) (k : ℕ) → Between (suc p) top es k → Between p top (p ∷ es) (suc k)
shifted p top es zero b = record { low = omega (arith, b.low); high = b.high }
shifted p top es (suc k) b = record { low = b.low; high = b.high }

earlier : (p top : ℕ) (es : List ℕ) (k : ℕ) → Between (suc p) top es k → Between p top es k
earlier p top es zero b = record { low = omega (arith, b.low); high = b.high }
earlier p top es (suc k) b = record { low = b.low; high = b.high }

ends-between : (t p : ℕ) (s : List ℕ) (k : ℕ) → k < length (ends_of t p s) → Between p (p + length s) (ends_of t p s) k
unfolding ends_of
ends-between t p [] zero h = record { low = omega arith; high = omega arith }
ends-between t p [] (suc k) h = absurd (omega arith)
ends-between t p (b ∷ s) k h =
    let z : suc p + length s ≡ p + suc (length s) = omega arith in
    go (b == t) k (λ j g. subst (λ (m : ℕ). Between (suc p) m (ends_of t (suc p) s) j) z (ends-between t (suc p) s j g)) h
  where
    go : (x : Bool) (j : ℕ) → ((i : ℕ) → i < length (ends_of t (suc p) s) → Between (suc p) (p + suc (length s)) (ends_of t (suc p) s) i)
        → j < length (cond x (p ∷ ends_of t (suc p) s) (ends_of t (suc p) s))
        → Between p (p + suc (length s)) (cond x (p ∷ ends_of t (suc p) s) (ends_of t (suc p) s)) j
    go true zero f g = record { low = omega arith; high = omega arith }
    go true (suc j) f g = shifted p _ _ j (f j (omega arith))
    go false j f g = earlier p _ _ j (f j g)

-- ---- a room with the ends of a line

-- as many ends as fields
pub ends-count : (line : List ℕ) → length (ends_of 9 0 line) ≡ length (fields line)
ends-count line = ends-length 9 0 line

-- what a look leaves
pub scanned-ended : {text room exit : List ℕ} {at : ℕ} {r : Scan} → Scanned text at room exit r → Ended (line_at text at) exit
scanned-ended {text} {room} {exit} {at} v k h g =
    let z : 0 + k ≡ k = omega arith in
    rw v.here (rw z at (sets-at (ends_of 9 0 (line_at text at)) room 0 k h (omega (arith, ap length v.here, length-sets room 0 (ends_of 9 0 (line_at text at))))))

-- the line lies in the text, and is as long as the look says
pub line-inside : (text : List ℕ) (at : ℕ) → at ≤ length text → at + length (line_at text at) ≡ end_of 10 text at
line-inside text at h =
    let e = part_length text at (end_of 10 text at - at) (omega (arith, end-le 10 text at h, end_ge 10 text at)) in
    omega (arith, e, end_ge 10 text at)

-- the start of a part that is not the first
pub start-past : (at : ℕ) (es : List ℕ) (k : ℕ) → (k ≢ 0) → slice_index es (k - 1) + 1 ≡ start_by at es k
start-past at es zero h = absurd (h refl)
start-past at es (suc k) h = let z : suc k - 1 ≡ k = omega arith in rw z

-- the field k by the ends in the room
module _ (line room : List ℕ) (v : Ended line room) (k : ℕ) (few : k < length (fields line)) (reach : k < length room) where
  less : k < length (ends_of 9 0 line)
  less = omega (arith, ends-count line)

  start_is : start_by 0 room k ≡ start_by 0 (ends_of 9 0 line) k
  start_is = go k less reach
    where
      go : (j : ℕ) → j < length (ends_of 9 0 line) → j < length room → start_by 0 room j ≡ start_by 0 (ends_of 9 0 line) j
      go zero h g = refl
      go (suc j) h g = ap (λ (x : ℕ). x + 1) (v j (omega arith) (omega arith))

  pub room-between : Between 0 (length line) room k
  room-between =
      let b = ends-between 9 0 line k less in
      record {
        low = rw (start_is, v k less reach) b.low;
        high = rw (v k less reach) (omega (arith, b.high));
      }

  pub field_is : part_of line (start_by 0 room k) (slice_index room k - start_by 0 room k) ≡ slice_index_or (fields line) k []
  field_is = rw (start_is, v k less reach) (sym (ap (λ (l : List (List ℕ)). get_or l k []) (fields-by line) ∙ part_at line 0 (ends_of 9 0 line) k less))

  -- how long it is
  pub field-length : start_by 0 room k + length (slice_index_or (fields line) k []) ≡ slice_index room k
  field-length =
      let b = room-between in
      omega (arith, b.low, ap length field_is, part_length line (start_by 0 room k) (slice_index room k - start_by 0 room k) (omega (arith, b.low, b.high)))

  -- it is the bytes from its start on
  pub field-there : get_or (fields line) k [] ≡ part_of line (start_by 0 room k) (length (slice_index_or (fields line) k []))
  field-there =
      let z : length (slice_index_or (fields line) k []) ≡ slice_index room k - start_by 0 room k = omega (arith, field-length) in
      rw z (sym field_is)

-- the same in the text that the line stands in
pub field-text : (text : List ℕ) (at : ℕ) (room : List ℕ) → at ≤ length text → Ended (line_at text at) room → (k : ℕ) → k < length (fields (line_at text at)) → k < length room
    → slice_index_or (fields (line_at text at)) k [] ≡ part_of text (at + start_by 0 room k) (length (slice_index_or (fields (line_at text at)) k []))
field-text text at room h v k few reach =
    field-there (line_at text at) room v k few reach
    ∙ part-part text at (end_of 10 text at - at) (start_by 0 room k) (length (slice_index_or (fields (line_at text at)) k []))
    (omega (arith, field-length (line_at text at) room v k few reach, (room-between (line_at text at) room v k few reach).high, line-inside text at h))
