-- Laws of looking cells up: a cell's bit tells whether it holds, and a row's bits which of its cells do. Assumes nothing.
use Rattle.std.specs.Prelude.{◌≡◌, Bool, List, ℕ, ◌+◌, ◌*◌, ◌/◌, ◌%◌, ◌≤◌, ◌<◌, get_or}
use Rattle.std.proofs.Common.{sym, ap, ◌∙◌, subst, inl, inr, ⊎_elim, arith, mul-le-mul_right, div-add-mod'}
use Rattle.logic.specs.Number.{Number}
use Rattle.logic.specs.laws.Number.{number-iff}
use Rattle.logic.specs.own.Decides.{Decides}
use Rattle.logic.specs.laws.Decides.{decides-iff}
use Rattle.row.specs.Bit.{Has}
use Rattle.row.specs.own.Bit.{hasb}
use Rattle.row.specs.own.Row.{Copied, RowHas}
use Rattle.row.specs.own.Change.{TakenOff, TakenOn}
use Rattle.row.specs.own.Pick.{InBoth, Marks, Shared, Together, room}
use Rattle.row.specs.laws.Rows.{row_within, has-copied, copied-has, copied-within}
use Rattle.row.specs.laws.Pick.{decides-has}
use Rattle.row.specs.laws.Bit.{at_place, moved}
use Rattle.row.specs.laws.Marks.{marks-iff}
use Rattle.row.specs.laws.Together.{has-together, lost-has, lost-keeps, taken-gets, taken-has, taken-keeps, together-has}
use Rattle.store.specs.declared.Counts.{Counts}
use Rattle.store.specs.Cell.{Cell, Within, DeclaredItem}
use Rattle.store.specs.Cell.Cell.{Same, In, Link}
use Rattle.store.specs.Layout.{ClosedStore, Holds, word_of, bit_of, in_at, item_limit, link_at, role_limit}
use Rattle.store.specs.own.Laid.{widest}
use Rattle.store.specs.own.Look.{LinksJoined, LinksMeet, LinkWord, SameDropped}
use Rattle.store.specs.laws.Parts.{item-lt, link-holds, link-place, link_ix, store-parts}

-- a bit of p's row of "same" tells that an item is the same as p
same-told : {W : ℕ} {n : Counts} {s : List ℕ} → ClosedStore W n s → (p : ℕ) → DeclaredItem n p → (x : ℕ) → x < item_limit W → Has (get_or s (p * W + x / 64) 0) (x % 64) → Holds W n s (Same p x)
same-told {W} {n} {s} ks p hp x hx h =
    subst (λ (y : ℕ). Holds W n s (Same p y)) (div-add-mod' x 64)
    ((store-parts ks).same p (x / 64) (x % 64) (omega (arith, ks.fits.items)) (omega arith) (omega arith) h)

-- the items of p's row of "same", copied out, are those that are the same as p
pub row_same : {W : ℕ} {n : Counts} {s m : List ℕ} → ClosedStore W n s → (p : ℕ) → DeclaredItem n p → Copied s (p * W) W room m → (x : ℕ) → x < item_limit W → RowHas m x → Holds W n s (Same p x)
row_same ks p hp c x hx h = same-told ks p hp x hx (copied-has c x hx h)

pub same_row : {W : ℕ} {n : Counts} {s m : List ℕ} → ClosedStore W n s → (p : ℕ) → Copied s (p * W) W room m → (x : ℕ) → Holds W n s (Same p x) → RowHas m x
same_row {W} {n} {s} ks p c x h = has-copied c x (omega (arith, ks.fits.items, h.within)) h.bit

-- the test of its bit decides whether a cell within the counts holds
pub decides-cell : {W : ℕ} {n : Counts} {i : ℕ} {b : Bool} (s : List ℕ) (c : Cell) → Within n c → i ≡ word_of W c → b ≡ hasb (get_or s i 0) (bit_of c) → Decides b (Holds W n s c)
decides-cell {W} {i = i} s c w p e = decides-iff (λ h. record { within = w; bit = at_place s p h }) (λ h. at_place s (sym p) h.bit) (decides-has (get_or s i 0) (bit_of c) e)

-- the row of a declared item's links lies within the part
pub link-row-within : (W r a : ℕ) → r < role_limit → a < item_limit W → (r * item_limit W + a) * W + W ≤ role_limit * (item_limit W * W)
link-row-within W r a hr ha = omega (arith, link-place W r a 0, row_within a (item_limit W) W ha, row_within r role_limit (item_limit W * W) hr)

-- and the part is no longer than a million words
pub link-part-small : (W : ℕ) → W ≤ widest → role_limit * (item_limit W * W) ≤ 1048576
link-part-small W h = let l : item_limit W ≤ item_limit widest = omega arith in omega (arith, mul-le-mul_right W l)

-- the row of "same" at b marks the items that are the same as b
pub same-marks : {W : ℕ} {n : Counts} {s r : List ℕ} (b : ℕ) → ClosedStore W n s → DeclaredItem n b → Copied s (b * W) W room r → Marks n.items r (λ x. Holds W n s (Same b x))
same-marks b k l c = record { sound = λ x h. let y = row_same k b l c x (copied-within c x h) h in (y.within.1, y); whole = λ x lx h. same_row k b c x h }

-- a row that loses the row of "same" at b loses the items that are the same as b
pub same-dropped : {W : ℕ} {n : Counts} {s p t : List ℕ} (b : ℕ) → ClosedStore W n s → DeclaredItem n b → TakenOff s (b * W) W p t → SameDropped (Holds W n s) b p t
same-dropped b k l d = record {
  keeps = λ x h f. lost-keeps d x h (λ lx z. f (same-told k b l x lx z));
  left = λ x h. (lost-has d x h).0;
  right = λ x h z. (lost-has d x h).1 (item-lt k.fits z.within.1) z.bit;
}

-- ---- the row of the items that a role links an item to

module _ {W from : ℕ} {n : Counts} {s : List ℕ} (r a : ℕ) (k : ClosedStore W n s) (l : DeclaredItem n a) (e : from ≡ link_at W + (r * item_limit W + a) * W) where
  place : (y : ℕ) → from + y / 64 ≡ link_ix W r a (y / 64)
  place y = omega arith

  link-told : (y : ℕ) → y < item_limit W → Has (get_or s (from + y / 64) 0) (y % 64) → Holds W n s (Link r a y)
  link-told y h z = link-holds k r a y (item-lt k.fits l) h (at_place s (place y) z)

  told-link : (y : ℕ) → Holds W n s (Link r a y) → Has (get_or s (from + y / 64) 0) (y % 64)
  told-link y h = at_place s (sym (place y)) h.bit

  -- its word h
  pub link-word : {h w : ℕ} → h < W → w ≡ get_or s (from + h) 0 → LinkWord (Holds W n s) r a h w
  link-word {h} {w} lh q = record {
    sound = λ x e z. link-told x (omega arith) (moved (q ∙ ap (λ (i : ℕ). get_or s (from + i) 0) (sym e)) z);
    whole = λ x e z. moved (ap (λ (i : ℕ). get_or s (from + i) 0) e ∙ sym q) (told-link x z);
  }

  -- it and the row p together
  pub links-joined : {p t : List ℕ} → Together s from W p t → LinksJoined (Holds W n s) n r a p t
  links-joined d = record {
    sound = λ y h. let q = together-has d y h in ⊎_elim inl (λ z. inr (link-told y q.0 z)) q.1;
    keeps = λ y ly h. has-together d y (item-lt k.fits ly) (inl h);
    links = λ y h. has-together d y (item-lt k.fits h.within.2) (inr (told-link y h));
  }

  -- the row p takes it on
  pub links-taken : {p t : List ℕ} → TakenOn s from W p t → LinksJoined (Holds W n s) n r a p t
  links-taken d = record {
    sound = λ y h. ⊎_elim inl (λ z. inr (link-told y z.0 z.1)) (taken-has d y h);
    keeps = λ y ly h. taken-keeps d y h;
    links = λ y h. taken-gets d y (item-lt k.fits h.within.2) (told-link y h);
  }

  -- whether it and the row p have an item in common
  pub links-meet : {p : List ℕ} {b : Bool} → Decides b (Shared s from W p) → Decides b (LinksMeet (Holds W n s) r a p)
  links-meet d = decides-iff
      (λ z. record { item = z.number; link = link-told z.number z.inside z.here; has = z.there })
      (λ z. record { number = z.item; inside = item-lt k.fits z.link.within.2; here = told-link z.item z.link; there = z.has })
      d

  -- how many items it and the row p have in common
  pub links-number : {p : List ℕ} {b : ℕ} → Number (InBoth s from W p) b → Number (λ y. Holds W n s (Link r a y) × RowHas p y) b
  links-number d = number-iff
      (λ y z. (link-told y z.inside z.here, z.there))
      (λ y z. record { inside = item-lt k.fits z.0.within.2; here = told-link y z.0; there = z.1 })
      d

-- ---- rows of what is told of many items, by one bit of their words

-- the words of the items' links to x lie within the part
pub column-within : (W r x i : ℕ) → r < role_limit → x < item_limit W → i ≤ item_limit W → (r * item_limit W + 0) * W + x / 64 + i * W < role_limit * (item_limit W * W) + W
column-within W r x i hr hx hi = omega (arith, link-place W r 0 0, mul-le-mul_right W hi, row_within r role_limit (item_limit W * W) hr)

-- the row marks the items that the role r links to x
pub back-marks : {W from : ℕ} {n : Counts} {s t : List ℕ} (r x : ℕ) → ClosedStore W n s → DeclaredItem n x → from ≡ link_at W + (r * item_limit W + 0) * W + x / 64
    → Marks n.items t (λ y. Has (get_or s (from + y * W) 0) (x % 64)) → Marks n.items t (λ y. Holds W n s (Link r y x))
back-marks {W} {from} {n} {s} r x k l e m =
    marks-iff (λ y ly h. link-holds k r y x (item-lt k.fits ly) (item-lt k.fits l) (at_place s (here y) h)) (λ y ly h. at_place s (sym (here y)) h.bit) m
  where
    here : (y : ℕ) → from + y * W ≡ link_ix W r y (x / 64)
    here y = omega (arith, link-place W r y (x / 64), link-place W r 0 (x / 64))

-- the row marks the items in the concept c
pub concept-marks : {W from : ℕ} {n : Counts} {s t : List ℕ} (c : ℕ) → ClosedStore W n s → from ≡ in_at W → Marks n.items t (λ x. Has (get_or s (from + x * 1) 0) c) → Marks n.items t (λ x. Holds W n s (In x c))
concept-marks {W} {from} {s = s} c k e m =
    marks-iff (λ x lx h. (store-parts k).item x c (item-lt k.fits lx) (at_place s (here x) h)) (λ x lx h. at_place s (sym (here x)) h.bit) m
  where
    here : (x : ℕ) → from + x * 1 ≡ in_at W + x
    here x = omega arith
