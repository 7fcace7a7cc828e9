-- Words copied from one list to another: each a function of a word's place and its value.
use Rattle.std.specs.Prelude.{cond, List, ℕ, ◌+◌, ◌-◌, ◌*◌, ◌/◌, ◌%◌, min, ltb, get_or}
use Rattle.row.specs.own.Change.{Mapped, Zeroed}
use Rattle.store.specs.declared.Counts.{Counts}
use Rattle.store.specs.declared.Layout.{Layout}
use Rattle.store.specs.Layout.{concept_limit, item_limit, role_limit}

-- a word from `to` on becomes the word of s that is as far from `from`
unfoldable pub copy_f : List ℕ → ℕ → ℕ → ℕ → ℕ → ℕ
copy_f s from to i w = get_or s (from + (i - to)) 0

-- of each stretch of `step` words from `to` on the first `words` are changed, those of stretch x by f x
unfoldable pub stride_f : (ℕ → ℕ → ℕ → ℕ) → ℕ → ℕ → ℕ → ℕ → ℕ → ℕ
stride_f f to step words i w = cond (ltb ((i - to) % step) words) (f ((i - to) / step) i w) w

-- the words of `count` stretches are so changed, and no other
pub record Strided (f : ℕ → ℕ → ℕ → ℕ) (to step words count : ℕ) (t u : List ℕ) : Type 0 where
  pub mapped : Mapped (stride_f f to step words) to (to + count * step) t u

-- row x of the rows at `to` becomes row x of those of s at `from`
unfoldable pub row_f : List ℕ → ℕ → ℕ → ℕ → ℕ → ℕ → ℕ → ℕ → ℕ
row_f s from old to new x i w = copy_f s (from + x * old) (to + x * new) i w

-- the rows at `to`, of `new` words each, become those of s at `from`, of `old` words each, as far as these reach
unfoldable pub rows_f : List ℕ → ℕ → ℕ → ℕ → ℕ → ℕ → ℕ → ℕ
rows_f s from old to new i w = stride_f (row_f s from old to new) to new (min old new) i w

-- block x of the blocks at `to`, of the rows of all items, becomes block x of those of s at `from`
unfoldable pub block_f : List ℕ → ℕ → ℕ → ℕ → ℕ → ℕ → ℕ → ℕ → ℕ
block_f s from old to new x i w = rows_f s (from + x * (item_limit old * old)) old (to + x * (item_limit new * new)) new i w

-- `count` rows are moved
pub record RowsMoved (s : List ℕ) (from old to new count : ℕ) (t u : List ℕ) : Type 0 where
  pub rows : Strided (row_f s from old to new) to new (min old new) count t u

-- the first `rows` rows of each of `count` blocks are moved
pub record BlocksMoved (s : List ℕ) (from old to new rows count : ℕ) (t u : List ℕ) : Type 0 where
  pub blocks : Strided (block_f s from old to new) to (item_limit new * new) (rows * new) count t u

-- all words of t are 0, and then the rows of "same", the words of concepts, roles and items, and the links are moved
pub record Carried (from to : Layout) (n : Counts) (s t u : List ℕ) : Type 0 where
  pub blank : List ℕ
  pub same : List ℕ
  pub middle : List ℕ
  pub zero : Zeroed t blank
  pub rows : RowsMoved s 0 from.width 0 to.width n.items blank same
  pub words : Mapped (copy_f s from.under to.under) to.under (to.under + (concept_limit + role_limit + n.items)) same middle
  pub links : BlocksMoved s from.link from.width to.link to.width n.items n.roles middle u
