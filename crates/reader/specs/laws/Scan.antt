-- What one look at a line has done so far, and each of its steps. Assumes nothing.
use Rattle.std.specs.Prelude.{◌≡◌, ℕ, zero, suc, ◌+◌, ◌-◌, ◌<◌, ◌≤◌, Bool, true, false, cond, List, [], ◌∷◌, length, ◌≢◌, slice_index, slice_set}
use Rattle.std.proofs.Math.Path.{refl, sym, ap}
use Rattle.std.proofs.Common.{◌∙◌, subst, arith}
use Rattle.std.proofs.Math.Decide.{ℕ_discrete}
use Rattle.std.proofs.Math.Numerals.{add-one}
use borrow.Author.Tests.{ne_eqb, le-leb}
use Rattle.std.proofs.Math.ListN.{length-set}
use Rattle.std.proofs.lemmas.List.Edits.{sets}
use Rattle.text.specs.Bytes.{every}
use Rattle.text.specs.Name.{line_byte}
use Rattle.text.specs.own.Split.{end_of}
use Rattle.text.specs.laws.Split.{end-here, end_on, end-out}
use Rattle.reader.specs.declared.scan.Scan.{Scan}
use Rattle.reader.specs.own.Scan.{Closes, Scanned, Skips, ends_of, line_at}
use Rattle.reader.specs.laws.Ends.{ends-length, line-none, line_on, line-stop}

-- the look stands at i, after n ends; what is still to be done makes up what was to be done
pub record Scanning (s : List ℕ) (at : ℕ) (room₀ : List ℕ) (i n : ℕ) (g : Bool) (room : List ℕ) : Type 0 where
  pub high : i ≤ length s
  pub few : n + at ≤ i
  pub long : length room ≡ length room₀
  pub end : end_of 10 s at ≡ end_of 10 s i
  pub count : length (ends_of 9 0 (line_at s at)) ≡ n + length (ends_of 9 (i - at) (line_at s i))
  pub good : every line_byte (line_at s at) ≡ cond g (every line_byte (line_at s i)) false
  pub here : sets room₀ 0 (ends_of 9 0 (line_at s at)) ≡ sets room n (ends_of 9 (i - at) (line_at s i))

-- which bytes may stand in a line
byte-plain : (b : ℕ) → 32 ≤ b → b ≤ 126 → line_byte b ≡ true
unfolding line_byte
byte-plain b h k = rw (le-leb 32 b h, le-leb b 126 k)

byte-tab : (b : ℕ) → b ≡ 9 → line_byte b ≡ true
unfolding line_byte
byte-tab b e = rw e

-- at the start
pub begins : (s : List ℕ) (at : ℕ) (room : List ℕ) → at ≤ length s → Scanning s at room at 0 true room
begins s at room h =
    let z : at - at ≡ 0 = omega arith in
    record { high = h; few = omega arith; long = refl; end = refl; count = rw z (omega arith); good = refl; here = rw z }

module _ {s : List ℕ} {at : ℕ} {room₀ : List ℕ} {i n : ℕ} {g : Bool} {room : List ℕ} (v : Scanning s at room₀ i n g room) where
  -- a test that has failed stays so
  after : (a b : Bool) → cond g (cond a b false) false ≡ cond (cond a g false) b false
  after true b = refl
  after false b = both g
    where
      both : (x : Bool) → cond x false false ≡ false
      both true = refl
      both false = refl

  module _ (h : i < length s) where
    -- a tab
    pub scan-tab : {exit : List ℕ} → slice_index s i ≡ 9 → exit ≡ slice_set room n (i - at) → Scanning s at room₀ (i + 1) (n + 1) g exit
    unfolding every ends_of
    scan-tab e q =
        let p : i + 1 - at ≡ suc (i - at) = omega (arith, v.few) in
        let l : line_at s i ≡ 9 ∷ line_at s (i + 1) = line_on s i h (λ k. omega arith) ∙ rw e in
        record {
          high = omega arith;
          few = omega (arith, v.few);
          long = ap length q ∙ length-set room n (i - at) ∙ v.long;
          end = v.end ∙ end_on 10 s i h (λ k. omega arith);
          count = v.count ∙ rw (l, p, add-one) (omega arith);
          good = v.good ∙ rw (l, every, byte-tab 9 refl);
          here = v.here ∙ rw (l, q, p, add-one, add-one);
        }

    -- a byte that is neither a tab nor a line feed
    pub scan-byte : {x : Bool} → (slice_index s i ≢ 10) → (slice_index s i ≢ 9) → x ≡ cond (line_byte (slice_index s i)) g false → Scanning s at room₀ (i + 1) n x room
    unfolding every ends_of
    scan-byte f e q =
        let l : line_at s i ≡ slice_index s i ∷ line_at s (i + 1) = line_on s i h f in
        let p : i + 1 - at ≡ suc (i - at) = omega (arith, v.few) in
        let z : ends_of 9 (i - at) (line_at s i) ≡ ends_of 9 (i + 1 - at) (line_at s (i + 1)) = rw (l, ends_of, ne_eqb _ _ e, p) in
        record {
          high = omega arith;
          few = omega (arith, v.few);
          long = v.long;
          end = v.end ∙ end_on 10 s i h f;
          count = v.count ∙ rw z;
          good = v.good ∙ rw (l, q, every) (after (line_byte (slice_index s i)) (every line_byte (line_at s (i + 1))));
          here = v.here ∙ rw z;
        }

-- several bytes that may stand in a field
scan-some : {s : List ℕ} {at : ℕ} {room₀ : List ℕ} {n : ℕ} {g : Bool} {room : List ℕ} (d i : ℕ) → Scanning s at room₀ i n g room → i + d ≤ length s
    → ((j : ℕ) → i ≤ j → j < i + d → (32 ≤ slice_index s j) × (slice_index s j ≤ 126)) → Scanning s at room₀ (i + d) n g room
scan-some {s} {at} {room₀} {n} {g} {room} zero i v h f = let z : i ≡ i + 0 = omega arith in subst (λ (k : ℕ). Scanning s at room₀ k n g room) z v
scan-some {s} {at} {room₀} {n} {g} {room} (suc d) i v h f =
    let z : i + 1 + d ≡ i + suc d = omega arith in
    let p = f i (omega arith) (omega arith) in
    subst (λ (k : ℕ). Scanning s at room₀ k n g room) z
    (scan-some d (i + 1) (scan-byte v (omega arith) (λ q. omega arith) (λ q. omega arith) (rw (byte-plain _ p.0 p.1))) (omega arith) (λ j a b. f j (omega arith) (omega arith)))

pub scan-skip : {s : List ℕ} {at : ℕ} {room₀ : List ℕ} {i n : ℕ} {g : Bool} {room : List ℕ} {r : ℕ} → Scanning s at room₀ i n g room → Skips s i r → Scanning s at room₀ r n g room
scan-skip {s} {at} {room₀} {i} {n} {g} {room} {r} v k =
    let z : i + (r - i) ≡ r = omega (arith, k.low) in
    subst (λ (m : ℕ). Scanning s at room₀ m n g room) z
    (scan-some (r - i) i v (omega (arith, k.low, k.high)) (λ j a b. k.plain j a (omega (arith, k.low))))

module _ {s : List ℕ} {at : ℕ} {room₀ : List ℕ} {i n : ℕ} {g : Bool} {room : List ℕ} (v : Scanning s at room₀ i n g room) where
  -- the end
  ends : {exit : List ℕ} {r : Scan} → line_at s i ≡ [] → end_of 10 s i ≡ i → Closes room at n i g exit r → Scanned s at room₀ exit r
  unfolding every ends_of
  ends l e c =
      record {
        end = c.end ∙ sym e ∙ sym v.end;
        count = c.count ∙ sym (sym (ends-length 9 0 (line_at s at)) ∙ v.count ∙ rw l);
        good = c.good ∙ sym (v.good ∙ rw l (itself g));
        here = c.here ∙ sym (v.here ∙ rw l);
      }
    where
      itself : (x : Bool) → cond x true false ≡ x
      itself true = refl
      itself false = refl

  pub scan-stop : {exit : List ℕ} {r : Scan} → i < length s → slice_index s i ≡ 10 → Closes room at n i g exit r → Scanned s at room₀ exit r
  scan-stop h e c = ends (line-stop s i h e) (end-here 10 s i h e) c

  pub scan-out : {exit : List ℕ} {r : Scan} → length s ≤ i → Closes room at n i g exit r → Scanned s at room₀ exit r
  scan-out h c = ends (line-none s i h) (end-out 10 s i h) c

-- one byte more
pub skip-more : {s : List ℕ} {at i : ℕ} → Skips s at i → i < length s → 32 ≤ slice_index s i → slice_index s i ≤ 126 → Skips s at (i + 1)
skip-more {s} {at} {i} k h a b = record { low = omega (arith, k.low); high = omega arith; plain = λ j l m. go j l m (ℕ_discrete j i) }
  where
    go : (j : ℕ) → at ≤ j → j < i + 1 → Dec (j ≡ i) → (32 ≤ slice_index s j) × (slice_index s j ≤ 126)
    go j l m (yes e) = rw e (a, b)
    go j l m (no e) = k.plain j l (omega arith)

pub skip-none : (s : List ℕ) (at : ℕ) → at ≤ length s → Skips s at at
skip-none s at h = record { low = omega arith; high = h; plain = λ j l m. absurd (omega arith) }
