-- Laws of rows copied from one list of words to another. Assumes nothing.
use Rattle.std.specs.Prelude.{◌≡◌, List, ℕ, ◌+◌, ◌-◌, ◌*◌, ◌≤◌, ◌<◌, min, get_or, length, take, drop, ◌++◌}
use Rattle.std.proofs.Math.Path.{refl}
use Rattle.std.proofs.Common.{sym, ap, ◌∙◌, arith, length-append, length-take, length-drop, get_or-take, get_or-drop, mul-le-mul_right}
use Rattle.std.proofs.lemmas.List.{get_or_append_left, get_or-append_right}
use Rattle.std.proofs.lemmas.Bool.{lt-ltb, le-ltb}
use Rattle.row.specs.own.Change.{Mapped}
use Rattle.row.specs.laws.Mapped.{mapped-append, mapped-done, mapped-none, mapped-pass, mapped-same}
use Rattle.row.specs.laws.Rows.{place, row_last, row_lt, row_next, row_within}
use Rattle.store.specs.declared.Counts.{Counts}
use Rattle.store.specs.declared.Layout.{Layout}
use Rattle.store.specs.Layout.{Fits, item_limit, role_limit}
use Rattle.store.specs.own.Laid.{Laid}
use Rattle.convert.specs.own.Carry.{BlocksMoved, RowsMoved, Strided, block_f, copy_f, row_f, rows_f, stride_f}

-- ---- a copied word

-- as the loop writes it
pub copy-here : (s : List ℕ) (from to h w v : ℕ) → v ≡ get_or s (from + h) 0 → v ≡ copy_f s from to (to + h) w
unfolding copy_f
copy-here s from to h w v e = let d : to + h - to ≡ h = omega arith in e ∙ rw d refl

-- as it is read
pub copy-word : (s : List ℕ) (from to h i w : ℕ) → i ≡ to + h → copy_f s from to i w ≡ get_or s (from + h) 0
unfolding copy_f
copy-word s from to h i w e = let d : i - to ≡ h = omega arith in ap (λ (x : ℕ). get_or s (from + x) 0) d

-- a part of t that a part of s is written over
pub part-copied : (s t : List ℕ) {ys : List ℕ} (from to count j k : ℕ) → from + count ≤ length s → to + count ≤ length t → j ≡ count → k ≡ count → ys ≡ take j (drop from s)
    → Mapped (copy_f s from to) to (to + count) t (take to t ++ (ys ++ drop k (drop to t)))
part-copied s t {ys} from to count j k ls lt ej ek e = record {
  len = simp (length-append, length-take, length-drop) (omega (arith, long));
  inside = λ i h l.
      get_or-append_right (take to t) _ to i 0 low h
      ∙ get_or_append_left ys _ 0 (i - to) (omega (arith, long))
      ∙ ap (λ (l : List ℕ). get_or l (i - to) 0) e
      ∙ get_or-take j (drop from s) (i - to) 0 (omega arith)
      ∙ get_or-drop from s (i - to) 0
      ∙ sym (copy-word s from to (i - to) i (get_or t i 0) (omega arith));
  below = λ i h. get_or_append_left (take to t) _ 0 i (omega (arith, low)) ∙ get_or-take to t i 0 h;
  above = λ i h.
      get_or-append_right (take to t) _ to i 0 low (omega arith)
      ∙ get_or-append_right ys _ count (i - to) 0 long (omega arith)
      ∙ get_or-drop k (drop to t) (i - to - count) 0
      ∙ get_or-drop to t (k + (i - to - count)) 0
      ∙ ap (λ (x : ℕ). get_or t x 0) (omega arith);
}
  where
    low : length (take to t) ≡ to
    low = length-take to t ∙ omega arith

    long : length ys ≡ count
    long = ap length e ∙ length-take j (drop from s) ∙ omega (arith, length-drop from s)

-- ---- stretches

module _ (f : ℕ → ℕ → ℕ → ℕ) (to step words x h i w : ℕ) (e : i ≡ to + x * step + h) (l : h < step) where
  -- a word of stretch x that is changed
  stride_on : h < words → stride_f f to step words i w ≡ f x i w
  unfolding stride_f
  stride_on k =
      let q = place to step x (to + x * step) i refl (omega arith) (omega arith) in
      let d : i - (to + x * step) ≡ h = omega arith in
      rw (q.0, q.1, d, lt-ltb h words k) refl

  -- and one that is not
  stride-off : words ≤ h → stride_f f to step words i w ≡ w
  unfolding stride_f
  stride-off k =
      let q = place to step x (to + x * step) i refl (omega arith) (omega arith) in
      let d : i - (to + x * step) ≡ h = omega arith in
      rw (q.0, q.1, d, le-ltb h words k) refl

-- before the first
pub stride-none : (f : ℕ → ℕ → ℕ → ℕ) (to step words : ℕ) (t : List ℕ) → Strided f to step words 0 t t
stride-none f to step words t = record { mapped = mapped-done (mapped-none _ _ _) (omega arith) (omega arith) }

-- one stretch more
pub stride-more : {f : ℕ → ℕ → ℕ → ℕ} {to step words x b : ℕ} {t u v : List ℕ} → Strided f to step words x t u → b ≡ to + x * step → words ≤ step → Mapped (f x) b (b + words) u v
    → Strided f to step words (x + 1) t v
stride-more {f} {to} {step} {words} {x} {b} m e l a =
    let q = row_next x step in
    let here = mapped-append (mapped-done m.mapped (omega arith) (omega arith)) a (omega arith) (omega arith) on in
    record { mapped = mapped-pass (to + (x + 1) * step) here (omega arith) (omega arith) off }
  where
    on : (j : ℕ) → b ≤ j → j < b + words → (w : ℕ) → f x j w ≡ stride_f f to step words j w
    on j hj lj w = sym (stride_on f to step words x (j - b) j w (omega arith) (omega arith) (omega arith))

    off : (j : ℕ) → b + words ≤ j → j < to + (x + 1) * step → (w : ℕ) → w ≡ stride_f f to step words j w
    off j hj lj w = let q = row_next x step in sym (stride-off f to step words x (j - b) j w (omega arith) (omega arith) (omega arith))

-- after the last
pub stride-done : {f : ℕ → ℕ → ℕ → ℕ} {to step words x count : ℕ} {t u : List ℕ} → Strided f to step words x t u → x ≤ count → count ≤ x → Strided f to step words count t u
stride-done {step = step} {x = x} {count} m h l = let q = row_last x count step h l in record { mapped = mapped-done m.mapped (omega arith) (omega arith) }

module _ {f : ℕ → ℕ → ℕ → ℕ} {to step words count : ℕ} {t u : List ℕ} (m : Strided f to step words count t u) (x h i : ℕ) (lx : x < count) (lh : h < step) (e : i ≡ to + x * step + h) where
  -- word h of stretch x
  strided-on : h < words → get_or u i 0 ≡ f x i (get_or t i 0)
  strided-on l = m.mapped.inside i (omega arith) (omega (arith, row_lt step count x h lx lh)) ∙ stride_on f to step words x h i _ e lh l

  -- and one past those that are changed
  strided-off : words ≤ h → get_or u i 0 ≡ get_or t i 0
  strided-off l = m.mapped.inside i (omega arith) (omega (arith, row_lt step count x h lx lh)) ∙ stride-off f to step words x h i _ e lh l

-- ---- rows and blocks

-- one row more
pub rows_more : {s t u v : List ℕ} {from old to new x b words : ℕ} (a : ℕ) → RowsMoved s from old to new x t u → a ≡ from + x * old → b ≡ to + x * new → words ≡ min old new
    → Mapped (copy_f s a b) b (b + words) u v → RowsMoved s from old to new (x + 1) t v
unfolding row_f
rows_more {s} {old = old} {new = new} {b = b} a m ea eb ew c =
    record { rows = stride-more m.rows eb (omega arith) (mapped-done (mapped-same c (λ j h k w. rw (ea, eb) refl)) (omega arith) (omega arith)) }

-- one block more
pub blocks_more : {s t u v : List ℕ} {from old to new rows x a b : ℕ} → BlocksMoved s from old to new rows x t u → a ≡ from + x * (item_limit old * old)
    → b ≡ to + x * (item_limit new * new) → rows ≤ item_limit new → RowsMoved s a old b new rows u v → BlocksMoved s from old to new rows (x + 1) t v
unfolding block_f rows_f
blocks_more {new = new} m ea eb l c =
    record { blocks = stride-more m.blocks eb (mul-le-mul_right new l) (mapped-same c.rows.mapped (λ j h k w. rw (ea, eb) refl)) }

-- a word of row x, of those that both have
row_on : (s : List ℕ) (from old to new x h i j w : ℕ) → i ≡ to + x * new + h → j ≡ from + x * old + h → h < old → h < new → rows_f s from old to new i w ≡ get_or s j 0
unfolding rows_f row_f
row_on s from old to new x h i j w e e' lo ln =
    stride_on (row_f s from old to new) to new (min old new) x h i w e ln (omega arith)
    ∙ copy-word s (from + x * old) (to + x * new) h i w e
    ∙ ap (λ (y : ℕ). get_or s y 0) (sym e')

-- and one of the others
row-off : (s : List ℕ) (from old to new x h i w : ℕ) → i ≡ to + x * new + h → old ≤ h → h < new → rows_f s from old to new i w ≡ w
unfolding rows_f
row-off s from old to new x h i w e lo ln = stride-off (row_f s from old to new) to new (min old new) x h i w e ln (omega arith)

module _ {s t u : List ℕ} {from old to new count : ℕ} (m : RowsMoved s from old to new count t u) (x h i : ℕ) (lx : x < count) (ln : h < new) (e : i ≡ to + x * new + h) where
  -- a word of the rows that are moved
  pub rows_on : (j : ℕ) → h < old → j ≡ from + x * old + h → get_or u i 0 ≡ get_or s j 0
  unfolding rows_f
  rows_on j lo e' = m.rows.mapped.inside i (omega arith) (omega (arith, row_lt new count x h lx ln)) ∙ row_on s from old to new x h i j _ e e' lo ln

  -- and one that the row of s does not have
  pub rows-off : old ≤ h → get_or u i 0 ≡ get_or t i 0
  unfolding rows_f
  rows-off lo = m.rows.mapped.inside i (omega arith) (omega (arith, row_lt new count x h lx ln)) ∙ row-off s from old to new x h i _ e lo ln

module _ {s t u : List ℕ} {from old to new rows count : ℕ} (m : BlocksMoved s from old to new rows count t u) (r x h i : ℕ) (lr : r < count) (ll : x < item_limit new) (ln : h < new) (e : i ≡ to + r * (item_limit new * new) + (x * new + h)) where
  -- in a block that is moved, a word of a row that is moved
  pub blocks-on : (j : ℕ) → x < rows → h < old → j ≡ from + r * (item_limit old * old) + x * old + h → get_or u i 0 ≡ get_or s j 0
  unfolding block_f
  blocks-on j lx lo e' =
      strided-on m.blocks r (x * new + h) i lr (row_lt new (item_limit new) x h ll ln) e (row_lt new rows x h lx ln)
      ∙ row_on s (from + r * (item_limit old * old)) old (to + r * (item_limit new * new)) new x h i j _ (omega arith) e' lo ln

  -- one that the row of s does not have
  pub blocks-off : x < rows → old ≤ h → get_or u i 0 ≡ get_or t i 0
  unfolding block_f
  blocks-off lx lo =
      strided-on m.blocks r (x * new + h) i lr (row_lt new (item_limit new) x h ll ln) e (row_lt new rows x h lx ln)
      ∙ row-off s (from + r * (item_limit old * old)) old (to + r * (item_limit new * new)) new x h i _ (omega arith) lo ln

  -- and one of a row that is not moved
  pub blocks-past : rows ≤ x → get_or u i 0 ≡ get_or t i 0
  blocks-past lx = strided-off m.blocks r (x * new + h) i lr (row_lt new (item_limit new) x h ll ln) e (omega (arith, mul-le-mul_right new lx))

-- ---- where the blocks lie

-- the block of a declared role lies within the store, and so do the rows of the declared items in it
pub block_within : {at : Layout} {n : Counts} {s : List ℕ} → Laid at s → Fits at.width n → (r a : ℕ) → r < n.roles → a ≡ at.link + r * (item_limit at.width * at.width)
    → (a + item_limit at.width * at.width ≤ length s) × (n.items * at.width ≤ item_limit at.width * at.width)
block_within {at} d f r a l e = (
  omega (arith, d.long, d.link, row_within r role_limit (item_limit at.width * at.width) (omega (arith, f.roles))),
  mul-le-mul_right at.width f.items,
)
