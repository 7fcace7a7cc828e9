-- From the words that are carried to the cells that are moved. Assumes nothing.
use Rattle.std.specs.Prelude.{◌≡◌, List, ℕ, ◌+◌, ◌*◌, ◌/◌, ◌≤◌, ◌<◌, get_or, length}
use Rattle.std.proofs.Common.{sym, ap, ◌∙◌, arith, mul-le-mul_right}
use mathlib.Core.Logic.Dec
use Rattle.std.proofs.Math.Decide.{dec_lt}
use Rattle.std.proofs.Math.ListN.{get_or-eq_default}
use Rattle.row.specs.Bit.{Has, Words}
use Rattle.row.specs.own.Change.{Zeroed}
use Rattle.row.specs.laws.Bit.{moved, zero-none}
use Rattle.row.specs.laws.Rows.{row_lt}
use Rattle.store.specs.declared.Counts.{Counts}
use Rattle.store.specs.Cell.{Cell, DeclaredItem, DeclaredRole, Within}
use Rattle.store.specs.Cell.Cell.{Same, Under, RoleUnder, In, Link}
use Rattle.store.specs.Layout.{ClosedStore, Fits, Holds, concept_limit, in_at, item_limit, link_at, role_limit, size, under_at, word_of}
use Rattle.store.specs.own.Laid.{layout_of}
use Rattle.store.specs.laws.Parts.{Parts, link_ix, link-place, parts-clean, store-parts}
use Rattle.convert.specs.Promise.{Moved}
use Rattle.convert.specs.own.Carry.{Carried}
use Rattle.convert.specs.laws.Carry.{blocks-off, blocks-on, blocks-past, copy-word, rows-off, rows_on}

-- all words are 0
zeroed-word : {t z : List ℕ} → Zeroed t z → (i : ℕ) → get_or z i 0 ≡ 0
zeroed-word {t} {z} d i = go (dec_lt i (length t))
  where
    go : Dec (i < length t) → get_or z i 0 ≡ 0
    go (yes l) = d.mapped.inside i (omega arith) l
    go (no l) = get_or-eq_default z 0 (omega (arith, d.mapped.len))

module _ {W W' : ℕ} {n : Counts} {s t u : List ℕ} (f : Fits W n) (f' : Fits W' n) (d : Carried (layout_of W) (layout_of W') n s t u) where
  -- ---- the words of each part

  -- what comes after a part leaves it as it is
  same_left : (i : ℕ) → i < under_at W' → get_or u i 0 ≡ get_or d.same i 0
  same_left i l = d.links.blocks.mapped.below i (omega arith) ∙ d.words.below i l

  -- and what comes before, 0
  between_left : (i : ℕ) → under_at W' ≤ i → get_or d.same i 0 ≡ 0
  between_left i l = d.rows.rows.mapped.above i (omega (arith, mul-le-mul_right W' f'.items)) ∙ zeroed-word d.zero i

  links-left : (i : ℕ) → link_at W' ≤ i → get_or d.middle i 0 ≡ 0
  links-left i l = d.words.above i (omega (arith, f'.items)) ∙ between_left i (omega arith)

  -- the words of "same"
  same-on : (a h : ℕ) → DeclaredItem n a → h < W → h < W' → get_or u (a * W' + h) 0 ≡ get_or s (a * W + h) 0
  same-on a h la lh lh' = same_left _ (row_lt W' (item_limit W') a h (omega (arith, f'.items)) lh') ∙ rows_on d.rows a h _ la lh' (omega arith) _ lh (omega arith)

  same-off : (a h : ℕ) → a < item_limit W' → h < W' → ¬ (DeclaredItem n a × (h < W)) → get_or u (a * W' + h) 0 ≡ 0
  same-off a h la lh' x = same_left _ (row_lt W' (item_limit W') a h la lh') ∙ go (dec_lt a n.items) ∙ zeroed-word d.zero _
    where
      go : Dec (DeclaredItem n a) → get_or d.same (a * W' + h) 0 ≡ get_or d.blank (a * W' + h) 0
      go (yes l) = rows-off d.rows a h _ l lh' (omega arith) (at_least (dec_lt h W))
        where
          at_least : Dec (h < W) → W ≤ h
          at_least (yes m) = absurd (x (l, m))
          at_least (no m) = omega arith
      go (no l) = let q : n.items ≤ a = omega arith in d.rows.rows.mapped.above _ (omega (arith, mul-le-mul_right W' q))

  -- the words between
  between-on : (i j h : ℕ) → h < concept_limit + role_limit + n.items → i ≡ under_at W' + h → j ≡ under_at W + h → get_or u i 0 ≡ get_or s j 0
  between-on i j h l e e' =
      d.links.blocks.mapped.below i (omega (arith, f'.items))
      ∙ d.words.inside i (omega arith) (omega arith)
      ∙ copy-word s (under_at W) (under_at W') h i _ e
      ∙ ap (λ (x : ℕ). get_or s x 0) (sym e')

  in-off : (a : ℕ) → ¬ (DeclaredItem n a) → a < item_limit W' → get_or u (in_at W' + a) 0 ≡ 0
  in-off a l m = d.links.blocks.mapped.below _ (omega arith) ∙ d.words.above _ (omega arith) ∙ between_left _ (omega arith)

  -- the words of the links
  link_on : (r a h : ℕ) → DeclaredRole n r → DeclaredItem n a → h < W → h < W' → get_or u (link_ix W' r a h) 0 ≡ get_or s (link_ix W r a h) 0
  link_on r a h lr la lh lh' =
      blocks-on d.links r a h _ lr (omega (arith, f'.items)) lh' (omega (arith, link-place W' r a h)) _ la lh (omega (arith, link-place W r a h))

  link-off : (r a h : ℕ) → a < item_limit W' → h < W' → ¬ (DeclaredRole n r × DeclaredItem n a × (h < W)) → get_or u (link_ix W' r a h) 0 ≡ 0
  link-off r a h la lh' x = go (dec_lt r n.roles) (dec_lt a n.items) (dec_lt h W) ∙ links-left _ (omega arith)
    where
      e : link_ix W' r a h ≡ link_at W' + r * (item_limit W' * W') + (a * W' + h)
      e = omega (arith, link-place W' r a h)

      go : Dec (DeclaredRole n r) → Dec (DeclaredItem n a) → Dec (h < W) → get_or u (link_ix W' r a h) 0 ≡ get_or d.middle (link_ix W' r a h) 0
      go (yes lr) (yes l) (yes lh) = absurd (x (lr, l, lh))
      go (yes lr) (yes l) (no lh) = blocks-off d.links r a h _ lr la lh' e l (omega arith)
      go (yes lr) (no l) z = blocks-past d.links r a h _ lr la lh' e (omega arith)
      go (no lr) y z = let q : n.roles ≤ r = omega arith in d.links.blocks.mapped.above _ (omega (arith, e, mul-le-mul_right (item_limit W' * W') q))

  -- ---- the cells

  -- the word of a cell goes to the cell's word
  word-of : (c : Cell) → Within n c → get_or u (word_of W' c) 0 ≡ get_or s (word_of W c) 0
  word-of (Same a b) w = same-on a (b / 64) w.0 (omega (arith, f.items, w.1)) (omega (arith, f'.items, w.1))
  word-of (Under a b) w = between-on _ _ a (omega (arith, f.concepts, w.0)) (omega arith) (omega arith)
  word-of (RoleUnder r v b) w = between-on _ _ (concept_limit + r) (omega (arith, f.roles, w.0)) (omega arith) (omega arith)
  word-of (In a b) w = between-on _ _ (concept_limit + role_limit + a) (omega (arith, w.0)) (omega arith) (omega arith)
  word-of (Link r a b) w = link_on r a (b / 64) w.0 w.1 (omega (arith, f.items, w.2)) (omega (arith, f'.items, w.2))

  -- every set bit is that of a cell of s
  parts-of : Parts W s (Holds W n s) → Parts W' u (Holds W n s)
  parts-of p = record {
    same = λ a h k la lh lk x. same a h k la lh lk x (Dec.and (dec_lt a n.items) (dec_lt h W));
    under = λ a k la x. p.under a k la (moved (between-on _ _ a (omega arith) (omega arith) (omega arith)) x);
    role = λ r k lr x. p.role r k lr (moved (between-on _ _ (concept_limit + r) (omega arith) (omega arith) (omega arith)) x);
    item = λ a k la x. item a k la x (dec_lt a n.items);
    link = λ r a h k lr la lh lk x. link r a h k lr la lh lk x (Dec.and (dec_lt r n.roles) (Dec.and (dec_lt a n.items) (dec_lt h W)));
  }
    where
      same : (a h k : ℕ) → a < item_limit W' → h < W' → k < 64 → Has (get_or u (a * W' + h) 0) k → Dec (DeclaredItem n a × (h < W)) → Holds W n s (Same a (h * 64 + k))
      same a h k la lh lk x (yes y) = p.same a h k (omega (arith, f.items, y.0)) y.1 lk (moved (same-on a h y.0 y.1 lh) x)
      same a h k la lh lk x (no y) = absurd (zero-none (moved (same-off a h la lh y) x))

      item : (a k : ℕ) → a < item_limit W' → Has (get_or u (in_at W' + a) 0) k → Dec (DeclaredItem n a) → Holds W n s (In a k)
      item a k la x (yes y) = p.item a k (omega (arith, f.items)) (moved (between-on _ _ (concept_limit + role_limit + a) (omega arith) (omega arith) (omega arith)) x)
      item a k la x (no y) = absurd (zero-none (moved (in-off a y la) x))

      link : (r a h k : ℕ) → r < role_limit → a < item_limit W' → h < W' → k < 64 → Has (get_or u (link_ix W' r a h) 0) k → Dec (DeclaredRole n r × (DeclaredItem n a × (h < W))) → Holds W n s (Link r a (h * 64 + k))
      link r a h k lr la lh lk x (yes y) = p.link r a h k lr (omega (arith, f.items, y.1.0)) y.1.1 lk (moved (link_on r a h y.0 y.1.0 y.1.1 lh) x)
      link r a h k lr la lh lk x (no y) = absurd (zero-none (moved (link-off r a h la lh (λ z. y (z.0, (z.1, z.2)))) x))

-- what is carried is moved
pub carried-moved : {W W' : ℕ} {n : Counts} {s t u : List ℕ} → ClosedStore W n s → Fits W' n → length t ≡ size W' → Words 64 u → Carried (layout_of W) (layout_of W') n s t u → Moved W W' n s u
carried-moved {W} {W'} {n} {s} {t} {u} k f l ws d = record {
  long = long;
  cells = λ c. (λ x. record { within = x.within; bit = moved (sym (word-of k.fits f d c x.within)) x.bit }, λ x. record { within = x.within; bit = moved (word-of k.fits f d c x.within) x.bit });
  clean = parts-clean f (λ c x. x.within) (parts-of k.fits f d (store-parts k)) long ws;
}
  where
    long : length u ≡ size W'
    long = d.links.blocks.mapped.len ∙ d.words.len ∙ d.rows.rows.mapped.len ∙ d.zero.mapped.len ∙ l
