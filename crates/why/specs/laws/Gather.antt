-- Laws of the statements as numbers: what is a reason among the numbers is one among the lines. Assumes nothing.
use Rattle.std.specs.Prelude.{◌≡◌, refl, Bool, cond, List, [], ◌∷◌, ◌++◌, ℕ, suc, ◌+◌, ◌≤◌, ◌<◌, length, set, take, replicate}
use Rattle.std.proofs.Common.{sym, ap, ◌∙◌, subst, add-one, arith, length-take, take-suc-set}
use Rattle.std.proofs.Math.Bool.{true, false}
use Rattle.std.proofs.lemmas.List.{length-replicate}
use Rattle.logic.specs.Number.{One}
use Rattle.logic.specs.Number.One.{first, later}
use Rattle.logic.specs.laws.Number.{one_none}
use Rattle.store.specs.declared.Counts.{Counts}
use Rattle.store.specs.declared.Statement.{Statement}
use Rattle.store.specs.Cell.{Cell, Within, cell_of}
use Rattle.store.specs.Layout.{Fits, large, size, small, width_of}
use Rattle.store.specs.declared.Layout.{Layout}
use Rattle.store.specs.own.Laid.{layout_of, widest}
use Rattle.store.specs.laws.Width.{block-small, width_small, width-wide}
use Rattle.closure.specs.Lines.{Stated}
use Rattle.closure.specs.Lines.Stated.{stated}
use Rattle.field.specs.Names.{Names, counts_of}
use Rattle.sheet.specs.Said.{SheetStatement, statements_of}
use Rattle.field.specs.own.Table.{Table, Tidy, names_of}
use Rattle.field.specs.laws.Table.{counts_of-names_of}
use Rattle.reason.specs.own.Code.{AllWithin, Coded, cell_at}
use Rattle.reason.specs.own.Code.Coded.{coded}
use Rattle.reason.specs.Part.{Minimal, Part}
use Rattle.reason.specs.Part.Part.{none as no_part, keep, leave}
use Rattle.row.specs.own.Row.{row_hasb}
use Rattle.reason.specs.own.Picked.{mark_words, picked_from}
use Rattle.reason.specs.own.Promise.{Clear, FollowsCoded, Lent, Reasoned, Sought, table_words}
use Rattle.reason.specs.laws.Picked.{picked-part}
use Rattle.why.specs.own.Asked.{Asked, ReasonMarked}
use Rattle.why.specs.own.Gather.{Gathered, Numbers, Searched}
use Rattle.why.specs.own.Gather.Numbers.{none, more}
use Rattle.why.specs.Reason.{FollowsFrom}
use Rattle.why.specs.laws.Reason.{follows-more}

-- one number and one statement more
coded-more : {k : ℕ} {ks : List ℕ} {c : Cell} → Coded ks c → Coded (k ∷ ks) c
coded-more (coded o) = coded (later o)

stated-more : {s : Statement} {ss : List Statement} {c : Cell} → Stated ss c → Stated (s ∷ ss) c
stated-more (stated o) = stated (later o)

-- the numbers of a part of the lines
record PartNumbers (n : Counts) (ks : List ℕ) (fewer : List SheetStatement) : Type 0 where
  those : List ℕ
  part : Part those ks
  numbers : Numbers n those fewer

module _ {n : Counts} where
  -- ---- the same cells

  numbers-length : {ks : List ℕ} {ls : List SheetStatement} → Numbers n ks ls → length ks ≡ length ls
  numbers-length none = refl
  numbers-length (more e w m) = ap suc (numbers-length m)

  -- a number states a cell of a line
  number-stated : {ks : List ℕ} {ls : List SheetStatement} {k : ℕ} → Numbers n ks ls → One k ks → Stated (statements_of ls) (cell_at k)
  number-stated {k = k} none o = elim o [ ]
  number-stated {ls = ls} (more {l = l} e w m) first = subst (λ (c : Cell). Stated (statements_of ls) c) (sym e) (stated first)
  number-stated (more e w m) (later o) = stated-more (number-stated m o)

  -- the cell of a line is that of a number
  line-coded : {ks : List ℕ} (ls : List SheetStatement) {s : Statement} → Numbers n ks ls → One s (statements_of ls) → Coded ks (cell_of s)
  line-coded ls none o = absurd (one_none o)
  line-coded (l ∷ ls) (more {k = k} {ks = ks} e w m) first = subst (λ (c : Cell). Coded (k ∷ ks) c) e (coded first)
  line-coded (l ∷ ls) (more e w m) (later o) = coded-more (line-coded ls m o)

  numbers-within : {ks : List ℕ} {ls : List SheetStatement} → Numbers n ks ls → AllWithin n ks
  numbers-within none k o = absurd (one_none o)
  numbers-within (more e w m) k first = subst (λ (c : Cell). Within n c) (sym e) w
  numbers-within (more e w m) k (later o) = numbers-within m k o

  -- what follows from one follows from the other
  numbers-follow : {c : Cell} {ks : List ℕ} {ls : List SheetStatement} → Numbers n ks ls → FollowsCoded n c ks → FollowsFrom n c ls
  numbers-follow {ks = ks} {ls = ls} m f = follows-more by f
    where
      by : (d : Cell) → Coded ks d → Stated (statements_of ls) d
      by d (coded o) = number-stated m o

  lines-follow : {c : Cell} {ks : List ℕ} {ls : List SheetStatement} → Numbers n ks ls → FollowsFrom n c ls → FollowsCoded n c ks
  lines-follow {ks = ks} {ls = ls} m f = follows-more by f
    where
      by : (d : Cell) → Stated (statements_of ls) d → Coded ks d
      by d (stated o) = line-coded ls m o

  -- ---- parts

  numbers-picked : (m : ℕ → Bool) (i : ℕ) {ks : List ℕ} {ls : List SheetStatement} → Numbers n ks ls → Numbers n (picked_from m i ks) (picked_from m i ls)
  unfolding picked_from
  numbers-picked m i none = none
  numbers-picked m i (more {k = k} {l = l} {ks = ks} {ls = ls} e w x) = go (m i) (numbers-picked m (suc i) x)
    where
      go : (b : Bool) → Numbers n (picked_from m (suc i) ks) (picked_from m (suc i) ls)
          → Numbers n (cond b (k ∷ picked_from m (suc i) ks) (picked_from m (suc i) ks)) (cond b (l ∷ picked_from m (suc i) ls) (picked_from m (suc i) ls))
      go true y = more e w y
      go false y = y

  numbers-part : {ks : List ℕ} {ls fewer : List SheetStatement} → Numbers n ks ls → Part fewer ls → PartNumbers n ks fewer
  numbers-part none no_part = record { those = []; part = no_part; numbers = none }
  numbers-part (more {k = k} e w m) (keep p) = let z = numbers-part m p in record { those = k ∷ z.those; part = keep z.part; numbers = more e w z.numbers }
  numbers-part (more {k = k} e w m) (leave p) = let z = numbers-part m p in record { those = z.those; part = leave z.part; numbers = z.numbers }

  -- a reason among the numbers is one among the lines
  numbers-minimal : {c : Cell} (m : ℕ → Bool) {ks : List ℕ} {ls : List SheetStatement} → Numbers n ks ls → Minimal (FollowsCoded n c) ks (picked_from m 0 ks) → Minimal (FollowsFrom n c) ls (picked_from m 0 ls)
  numbers-minimal {c} m {ks} {ls} x r = record { part = picked-part m 0 ls; enough = numbers-follow y r.enough; needed = needed }
    where
      y : Numbers n (picked_from m 0 ks) (picked_from m 0 ls)
      y = numbers-picked m 0 x

      needed : (fewer : List SheetStatement) → Part fewer (picked_from m 0 ls) → length fewer < length (picked_from m 0 ls) → ¬ (FollowsFrom n c fewer)
      needed fewer p h f =
          let z = numbers-part y p in
          r.needed z.those z.part (omega (arith, numbers-length y, numbers-length z.numbers, h)) (lines-follow z.numbers f)

  -- ---- one more

  numbers-last : {ks : List ℕ} {ls : List SheetStatement} (k : ℕ) (l : SheetStatement) → cell_at k ≡ cell_of l.statement → Within n (cell_of l.statement) → Numbers n ks ls → Numbers n (ks ++ k ∷ []) (ls ++ l ∷ [])
  numbers-last k l e w none = more e w none
  numbers-last k l e w (more f v m) = more f v (numbers-last k l e w m)

  -- no number yet
  pub numbers-none : (codes : List ℕ) → Numbers n (take 0 codes) []
  numbers-none codes = none

  -- a number more is written
  pub numbers_more : (codes : List ℕ) (i k : ℕ) {ls : List SheetStatement} (l : SheetStatement) → i < length codes → cell_at k ≡ cell_of l.statement → Within n (cell_of l.statement) → Numbers n (take i codes) ls
      → Numbers n (take (i + 1) (set codes i k)) (ls ++ l ∷ [])
  numbers_more codes i k l h e w m = rw (add-one, take-suc-set codes i k) (numbers-last k l e w m)

-- a cell within the counts of the names is within those of the table
pub within-table : (sheet : List ℕ) {t : Table} (names : Names) (c : Cell) → Tidy sheet t → names ≡ names_of sheet t → Within (counts_of names) c → Within t.counts c
within-table sheet {t} names c y e w = subst (λ (n : Counts). Within n c) (ap counts_of e ∙ counts_of-names_of sheet t y) w

-- ---- the search among the numbers

-- words for as many items as a row has bits
pub lent-blank : (W : ℕ) → W ≤ widest → Lent W (replicate (table_words W) 0)
lent-blank W wide = record { wide = wide; long = omega (arith, length-replicate {A = ℕ} (table_words W) 0) }

-- those for the larger store suffice for any
pub lent-large : (s : List ℕ) → Lent (width_of s) (replicate (table_words large) 0)
lent-large s = record { wide = width-wide s; long = omega (arith, length-replicate {A = ℕ} (table_words large) 0, block-small (width_of s) (width-wide s)) }

-- those for the smaller one suffice where the store is not the larger
pub lent-small : (s : List ℕ) → ¬ (length s ≡ size large) → Lent (width_of s) (replicate (table_words small) 0)
lent-small s n = rw (width_small s n) (lent-blank small (omega arith))

-- the words lent, by the layout of the store
pub searched-by : {at : Layout} {W : ℕ} {n : Counts} {table : List ℕ} → at ≡ layout_of W → small ≤ W → Fits at.width n → Lent W table → Searched at.width n table
searched-by e some f l = record { fits = f; some = rw e (omega (arith, some)); lent = rw e l }

module _ {sheet : List ℕ} {t : Table} {c : Cell} {codes : List ℕ} {r : ℕ} (g : Gathered sheet t codes r) where
  -- it can be made
  pub gathered-sought : {W : ℕ} {table marks : List ℕ} → Asked sheet t c → length marks ≡ mark_words → Clear marks → Searched W t.counts table → Sought W t.counts c (take r codes) table marks
  gathered-sought a wide clear h =
      let s = a.sheet_said in
      let m = g.numbers s.width s.said s.ends s.names in
      record {
        fits = h.fits;
        within = numbers-within m;
        few = omega (arith, length-take r codes, g.few);
        follows = lines-follow m (a.follows s.width s.said s.ends s.names);
        some = h.some;
        lent = h.lent;
        wide = wide;
        clear = clear;
      }

  -- what it marks is a reason
  pub gathered-reason : {marks : List ℕ} → Reasoned t.counts c (take r codes) marks → ReasonMarked sheet t c marks
  gathered-reason {marks} q W x o m = numbers-minimal (row_hasb marks) (g.numbers W x o m) q.minimal
