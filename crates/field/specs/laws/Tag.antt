-- Laws of the tags of names. Assumes nothing.
use Rattle.std.specs.Prelude.{◌≡◌, refl, Bool, true, false, List, [], ◌∷◌, ℕ, ◌+◌, ◌-◌, ◌*◌, ◌/◌, ◌%◌, ◌≤◌, ◌<◌, length, get_or}
use Rattle.std.proofs.Common.{sym, ap, ◌∙◌, arith, eq-eqb, le-leb, ne_eqb}
use Rattle.std.proofs.Math.Decide.{ℕ_discrete}
use Rattle.std.proofs.lemmas.Bool.{lt-leb}
use Rattle.text.specs.Bytes.{same}
use Rattle.text.specs.laws.Bytes.{same_length, same_true}
use Rattle.field.specs.own.Table.{hint_count, key_of, tag_count, tag_of, tagged}
use Rattle.text.specs.own.Chunk.{low}
use Rattle.text.specs.own.Split.{part_of}

-- the tag of no byte, of one, and of more
pub tag-none : (w : List ℕ) → length w ≡ 0 → 0 ≡ tag_of w
unfolding tag_of
tag-none [] e = refl
tag-none (b ∷ w) e = absurd (omega arith)

pub tag_one : (w : List ℕ) → length w ≡ 1 → (get_or w (length w - 1) 0 + 16 * get_or w (length w - 1) 0) % tag_count ≡ tag_of w
unfolding tag_of
tag_one w e = rw e

pub tag-more : (w : List ℕ) → (get_or w (length w - 1) 0 + 16 * get_or w (length w - 2) 0) % tag_count ≡ tag_of w
unfolding tag_of
tag-more w = refl

-- under its own tag
pub tagged-own : (k : ℕ) (w : List ℕ) → tag_of w ≡ k → tagged k w ≡ w
unfolding tagged
tagged-own k w e = rw (eq-eqb _ _ e)

-- under another
pub tagged-none : (k : ℕ) (w : List ℕ) → (tag_of w ≡ k → ⊥) → tagged k w ≡ []
unfolding tagged
tagged-none k w e = rw (ne_eqb _ _ e)

-- it is not longer
pub tagged-short : (k : ℕ) (w : List ℕ) → length (tagged k w) ≤ length w
tagged-short k w = go (ℕ_discrete (tag_of w) k)
  where
    go : Dec (tag_of w ≡ k) → length (tagged k w) ≤ length w
    go (yes e) = omega (arith, ap length (tagged-own k w e))
    go (no e) = omega (arith, ap length (tagged-none k w e))

-- bytes with another tag are other bytes
pub tagged-other : (k : ℕ) (w x : List ℕ) → (k ≡ tag_of w → ⊥) → (length w ≡ 0 → ⊥) → same w (tagged k x) ≡ false
tagged-other k w x f some = go (ℕ_discrete (tag_of x) k)
  where
    unlike : tag_of x ≡ k → (b : Bool) → same w x ≡ b → same w x ≡ false
    unlike e true q = absurd (f (sym e ∙ sym (ap tag_of (same_true w x q))))
    unlike e false q = q

    go : Dec (tag_of x ≡ k) → same w (tagged k x) ≡ false
    go (yes e) = ap (same w) (tagged-own k x e) ∙ unlike e (same w x) refl
    go (no e) = ap (same w) (tagged-none k x e) ∙ same_length w [] some

-- bytes with the tag are the same as those under it if they are the same without it
pub tagged-same : (k : ℕ) (w x : List ℕ) → k ≡ tag_of w → (length w ≡ 0 → ⊥) → same w x ≡ same w (tagged k x)
tagged-same k w x e some = go (ℕ_discrete (tag_of x) k)
  where
    unlike : (tag_of x ≡ k → ⊥) → (b : Bool) → same w x ≡ b → same w x ≡ false
    unlike f true q = absurd (f (sym (ap tag_of (same_true w x q)) ∙ sym e))
    unlike f false q = q

    go : Dec (tag_of x ≡ k) → same w x ≡ same w (tagged k x)
    go (yes q) = ap (same w) (sym (tagged-own k x q))
    go (no f) = unlike f (same w x) refl ∙ sym (ap (same w) (tagged-none k x f) ∙ same_length w [] some)

-- the key of four bytes or more, and of fewer
pub key-long : (w : List ℕ) → 4 ≤ length w → (low (part_of w 0 4) * 113173225 + low (part_of w (length w - 4) 4) * 1008168907) / 67108864 % hint_count ≡ key_of w
unfolding key_of
key-long w h = rw (le-leb 4 (length w) h)

pub key-short : (w : List ℕ) → length w < 4 → tag_of w % hint_count ≡ key_of w
unfolding key_of
key-short w h = rw (lt-leb 4 (length w) h)
