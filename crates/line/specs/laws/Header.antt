-- Laws of line 1: what is wrong with it, and what it says of a sheet's edition. Assumes nothing.
use Rattle.std.proofs.lemmas.Bool.{not-false}
use Rattle.std.specs.Prelude.{◌≡◌, Bool, not, List, ℕ, ◌≤◌, ◌<◌, leb, ltb, length, get_or}
use Rattle.std.proofs.Math.Path.{refl}
use Rattle.std.proofs.Common.{sym, ap, ◌∙◌, true≢false, arith, le-ltb, leb-true, lt-ltb}
use Rattle.std.proofs.Math.Bool.{true, false}
use Rattle.text.specs.Bytes.{bytes, every}
use Rattle.text.specs.Name.{line_byte}
use Rattle.text.specs.laws.Bytes.{same_true}
use Rattle.store.specs.Layout.{item_limit, large, small}
use Rattle.field.specs.Names.{fault}
use Rattle.field.specs.laws.Right.{fault-none}
use Rattle.line.specs.Fault.{header, headed, header_fault, is_first, is_second, line_limit, room_by}

-- ---- what is wrong with it

module _ (W : ℕ) (l : List ℕ) where
  -- it is too long
  pub header-long : line_limit < length l → 10 ≡ header_fault W l
  unfolding header_fault
  header-long g = rw (lt-ltb line_limit (length l) g)

  module _ (g : length l ≤ line_limit) where
    -- it has a byte that may not stand in a line
    pub header-bytes : not (every line_byte l) ≡ true → 10 ≡ header_fault W l
    unfolding header_fault
    header-bytes e = rw (le-ltb line_limit (length l) g, e)

    -- it is no header that the store takes
    pub header-wrong : not (every line_byte l) ≡ false → not (headed W l) ≡ true → 11 ≡ header_fault W l
    unfolding header_fault
    header-wrong e q = rw (le-ltb line_limit (length l) g, e, q)

    -- nothing
    pub header-right : not (every line_byte l) ≡ false → not (headed W l) ≡ false → 0 ≡ header_fault W l
    unfolding header_fault
    header-right e q = rw (le-ltb line_limit (length l) g, e, q)

-- ---- whether it is a header

module _ (W : ℕ) (l : List ℕ) where
  -- of edition 1: with every store
  pub headed-first : is_first l ≡ true → true ≡ headed W l
  headed-first e = rw e

  -- of edition 2: with the larger store
  pub headed-second : is_first l ≡ false → is_second l ≡ true → leb large W ≡ headed W l
  headed-second e q = rw (e, q)

  -- of neither
  pub headed-none : is_first l ≡ false → is_second l ≡ false → false ≡ headed W l
  headed-none e q = rw (e, q)

-- ---- the items of its edition

module _ (l : List ℕ) where
  -- of edition 2: those of the larger store
  pub room-second : is_second l ≡ true → item_limit large ≡ room_by l
  unfolding room_by
  room-second e = rw e

  -- of any other: those of the smaller
  pub room-other : is_second l ≡ false → item_limit small ≡ room_by l
  unfolding room_by
  room-other e = rw e

  -- no edition has room for more than the larger store
  pub room_most : room_by l ≤ item_limit large
  room_most = go (is_second l) refl
    where
      go : (b : Bool) → is_second l ≡ b → room_by l ≤ item_limit large
      go true e = omega (arith, room-second e)
      go false e = omega (arith, room-other e)

  -- no line is the header of both editions
  first-only : is_first l ≡ true → is_second l ≡ false
  first-only e = go (is_second l) refl
    where
      go : (b : Bool) → is_second l ≡ b → is_second l ≡ false
      go true q =
          let z : header (bytes "1") ≡ header (bytes "2") = sym (same_true l (header (bytes "1")) e) ∙ same_true l (header (bytes "2")) q in
          absurd (omega (arith, ap (λ (x : List ℕ). get_or x 6 0) z))
      go false q = q

  -- a sheet whose line 1 has nothing wrong declares no more items than the store has room for
  pub room_fits : (W : ℕ) → small ≤ W → header_fault W l ≡ 0 → room_by l ≤ item_limit W
  unfolding header_fault
  room_fits W wide e =
      let a = fault-none (ltb line_limit (length l)) 9 (fault (not (every line_byte l)) 10 (fault (not (headed W l)) 11 0)) e in
      let b = fault-none (not (every line_byte l)) 9 (fault (not (headed W l)) 11 0) a.1 in
      go (is_first l) (is_second l) refl refl (not-false _ (fault-none (not (headed W l)) 10 0 b.1).0)
    where
      go : (x y : Bool) → is_first l ≡ x → is_second l ≡ y → headed W l ≡ true → room_by l ≤ item_limit W
      go true y p q h = omega (arith, wide, room-other (first-only p))
      go false true p q h = omega (arith, leb-true large W (headed-second W l p q ∙ h), room-second q)
      go false false p q h = absurd (true≢false (sym (headed-none W l p q ∙ h)))
