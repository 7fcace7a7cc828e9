-- Cells as bits at the places where the tests of rows read them. Assumes nothing.
use Rattle.std.specs.Prelude.{◌≡◌, Bool, true, false, List, ℕ, ◌+◌, ◌*◌, ◌/◌, ◌%◌, ◌≤◌, ◌<◌, get_or}
use Rattle.std.proofs.Common.{ap, ◌∙◌, lt_of_lt_of_le, zero-mul, arith, pow_mono}
use Rattle.row.specs.Bit.{Has}
use Rattle.row.specs.laws.Bit.{at-bit, at_place, moved, zero-none}
use Rattle.row.specs.laws.Gather.{gathered-has, gathered-lt, has-gathered}
use Rattle.store.specs.declared.Counts.{Counts}
use Rattle.store.specs.declared.Layout.{Layout}
use Rattle.store.specs.Cell.{Cell, DeclaredItem}
use Rattle.store.specs.Cell.Cell.{Link}
use Rattle.store.specs.Layout.{Fits, Holds, role_limit, side}
use Rattle.store.specs.own.Laid.{layout_of}
use Rattle.closed.specs.own.Closed.{PairIncludes, link_word, pair_word}
use Rattle.store.specs.own.RoleWord.{half_size}
use Rattle.store.specs.laws.Parts.{link-place}
use Rattle.store.specs.laws.Halves.{has-paired, paired-has}

-- bit b of a row of one word
pub narrow : (s : List ℕ) (b : ℕ) {i j : ℕ} → b < 64 → i ≡ j → Has (get_or s (i + b / 64) 0) (b % 64) → Has (get_or s j 0) b
narrow s b {i} {j} l e x = at-bit {j = b % 64} (omega arith) (at_place s {i = i + b / 64} (omega arith) x)

-- and the other way round
pub widen : (s : List ℕ) (b : ℕ) {i j : ℕ} → b < 64 → j ≡ i → Has (get_or s j 0) b → Has (get_or s (i + b / 64) 0) (b % 64)
widen s b {i} {j} l e x = at-bit {j = b} (omega arith) (at_place s {i = j} (omega arith) x)

-- bit k of word h of a row
pub word-bit : (s : List ℕ) (i h k : ℕ) {j : ℕ} → k < 64 → i + h ≡ j → Has (get_or s (i + (h * 64 + k) / 64) 0) ((h * 64 + k) % 64) → Has (get_or s j 0) k
word-bit s i h k l e x = at-bit {j = (h * 64 + k) % 64} (omega arith) (at_place s {i = i + (h * 64 + k) / 64} (omega arith) x)

-- the first of one block
pub first_block : (r size : ℕ) → r < 1 → r * size ≡ 0
first_block r size l = let e : r ≡ 0 = omega arith in ap (λ (x : ℕ). x * size) e ∙ zero-mul size

-- ---- the word of a pair of items

-- the link that a half of the pair's word is about
abbrev pub along : Bool → ℕ → ℕ → ℕ → Cell
along false r a b = Link r a b
along true r a b = Link r b a

-- the roles that link two items are within a half
pub link-word-lt : (at : Layout) (s : List ℕ) (n a b : ℕ) → n ≤ role_limit → link_word at s n a b < half_size
link-word-lt at s n a b l = lt_of_lt_of_le (gathered-lt s _ _ (b % 64) n) (pow_mono l)

-- where no role links a to b there is nothing to include
pub no-link : (at : Layout) (s : List ℕ) (n a b : ℕ) → n ≤ role_limit → link_word at s n a b ≡ 0 → PairIncludes at s n a b
no-link at s n a b l e r lr x k z = absurd (zero-none {k = r} (moved e (paired-has false (link_word at s n a b) (link_word at s n b a) (link-word-lt at s n a b l) (omega arith) (at-bit (omega arith) x))))

module _ {W : ℕ} {n : Counts} (s : List ℕ) (f : Fits W n) where
  link-word : {r a b : ℕ} → Holds W n s (Link r a b) → Has (link_word (layout_of W) s n.roles a b) r
  link-word {r} {a} {b} x = has-gathered s _ _ (b % 64) n.roles r x.within.0 (at_place s (omega (arith, link-place W r a (b / 64))) x.bit)

  word-link : (r a b : ℕ) → DeclaredItem n a → DeclaredItem n b → Has (link_word (layout_of W) s n.roles a b) r → Holds W n s (Link r a b)
  word-link r a b la lb x =
      let q = gathered-has s _ _ (b % 64) n.roles r x in
      record { within = (q.0, la, lb); bit = at_place s (omega (arith, link-place W r a (b / 64))) q.1 }

  word_lt : (a b : ℕ) → link_word (layout_of W) s n.roles a b < half_size
  word_lt a b = link-word-lt (layout_of W) s n.roles a b f.roles

  -- the links between a and b are the bits of the pair's word
  pub pair-gets : (u : Bool) (r a b : ℕ) → Holds W n s (along u r a b) → Has (pair_word (layout_of W) s n.roles a b) (side u + r)
  pair-gets false r a b x = has-paired false _ (link_word (layout_of W) s n.roles b a) (word_lt a b) (omega (arith, f.roles, x.within.0)) (link-word x)
  pair-gets true r a b x = has-paired true (link_word (layout_of W) s n.roles a b) _ (word_lt a b) (omega (arith, f.roles, x.within.0)) (link-word x)

  -- and the bits of the pair's word are the links between a and b
  pub pair-has : (u : Bool) (r a b : ℕ) → r < n.roles → DeclaredItem n a → DeclaredItem n b → Has (pair_word (layout_of W) s n.roles a b) (side u + r) → Holds W n s (along u r a b)
  pair-has false r a b lr la lb x =
      word-link r a b la lb (paired-has false (link_word (layout_of W) s n.roles a b) (link_word (layout_of W) s n.roles b a) (word_lt a b) (omega (arith, f.roles)) x)
  pair-has true r a b lr la lb x =
      word-link r b a lb la (paired-has true (link_word (layout_of W) s n.roles a b) (link_word (layout_of W) s n.roles b a) (word_lt a b) (omega (arith, f.roles)) x)
