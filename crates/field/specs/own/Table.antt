-- The reader's own records of the declared names: places in the sheet.
use Rattle.std.specs.Prelude.{◌≡◌, Bool, true, cond, not, ◌&&◌, List, [], map, ℕ, ◌+◌, ◌-◌, ◌*◌, ◌/◌, ◌%◌, ◌≤◌, ◌<◌, eqb, leb, length, get_or, take, drop, set}
use Rattle.text.specs.own.Chunk.{low}
use Rattle.text.specs.own.Split.{part_of}
use Rattle.text.specs.Bytes.{place as place_of}
use Rattle.logic.specs.Number.{Distinct, One}
use Rattle.text.specs.Name.{is_name}
use Rattle.store.specs.declared.Counts.{Counts}
use Rattle.store.specs.Layout.{Fits, concept_limit, item_limit, large, role_limit}
use Rattle.field.specs.Names.{Names, reserved}
use Rattle.field.specs.Words.{Field}

-- how many tags, places and lengths an entry can tell, and how many entries have the same tag
abbrev pub tag_count : ℕ
tag_count = 2048

abbrev pub place_count : ℕ
place_count = 65536

abbrev pub length_count : ℕ
length_count = 32

abbrev pub tagged_count : ℕ
tagged_count = place_count * length_count

-- the tag of a name: made of its last two bytes, by which most other names are told from it
unfoldable pub tag_of : List ℕ → ℕ
tag_of w = (get_or w (length w - 1) 0 + 16 * get_or w (length w - 2) 0) % tag_count

-- the bytes w under their own tag, and none under another
unfoldable pub tagged : ℕ → List ℕ → List ℕ
tagged k w = cond (eqb (tag_of w) k) w []

-- the entry of a name at a place
abbrev pub entry_of : List ℕ → ℕ → ℕ
entry_of w place = tag_of w * tagged_count + (place * length_count + length w)

-- the name of an entry, which has its tag, its place and its length
abbrev pub name_at : List ℕ → ℕ → List ℕ
name_at sheet p = tagged (p / tagged_count) (part_of sheet (p / length_count % place_count) (p % length_count))

-- how many hints there are, which come first
abbrev pub hint_count : ℕ
hint_count = 1024

-- where the number of items stands that the sheet's edition has room for
abbrev pub room_at : ℕ
room_at = hint_count

-- where the entries of the concepts, of the roles and of the items begin; those of the items come last
abbrev pub concepts_from : ℕ
concepts_from = room_at + 1

abbrev pub roles_from : ℕ
roles_from = concepts_from + concept_limit

abbrev pub items_from : ℕ
items_from = roles_from + role_limit

-- how many numbers there are, for as many items as a store with item rows of W words has
abbrev pub number_count : ℕ → ℕ
number_count W = items_from + item_limit W

-- a number made of a name's first four bytes and its last four, or, where it has fewer than four, of its tag
unfoldable pub key_of : List ℕ → ℕ
key_of w = cond (leb 4 (length w)) ((low (part_of w 0 4) * 113173225 + low (part_of w (length w - 4) 4) * 1008168907) / 67108864 % hint_count) (tag_of w % hint_count)

-- where the hint for a name stands, among the names whose entries begin at a place
abbrev pub hint_at : ℕ → List ℕ → ℕ
hint_at from w = (key_of w + from) % hint_count

-- the names of the n entries from a place on
abbrev pub entered : List ℕ → List ℕ → ℕ → ℕ → List (List ℕ)
entered sheet numbers from n = map (name_at sheet) (take n (drop from numbers))

-- the numbers lent for names, and how many names there are
pub record Table : Type 0 where
  pub numbers : List ℕ
  pub counts : Counts

abbrev pub table_of : List ℕ → Counts → Table
table_of numbers counts = record { numbers = numbers; counts = counts }

-- how many items there is room for
abbrev pub room_of : List ℕ → ℕ
room_of numbers = get_or numbers room_at 0

-- the names of a table
abbrev pub names_of : List ℕ → Table → Names
names_of sheet t =
    record {
      concepts = entered sheet t.numbers concepts_from t.counts.concepts;
      roles = entered sheet t.numbers roles_from t.counts.roles;
      items = entered sheet t.numbers items_from t.counts.items;
      room = room_of t.numbers;
    }

-- an entry was put into the numbers at a place after the hints, where all else is as it was, and a hint at its place; no hint was taken out
pub record Noted (numbers : List ℕ) (place p hint : ℕ) (exit : List ℕ) : Type 0 where
  pub entries : drop hint_count exit ≡ drop hint_count (set numbers place p)
  pub long : length exit ≡ length numbers
  pub here : get_or exit hint 0 ≡ 0 → ⊥
  pub still : (k : ℕ) → k < hint_count → get_or exit k 0 ≡ 0 → get_or numbers k 0 ≡ 0

-- the place k of the name w among the names, of which there are n
pub record Placed (w : List ℕ) (names : List (List ℕ)) (n k : ℕ) : Type 0 where
  pub place : k ≡ place_of w names
  pub count : length names ≡ n

-- the names declared so far of one kind: none of them twice, and all of them good
pub record Listed (good : Field → Bool) (names : List Field) : Type 0 where
  pub distinct : Distinct names
  pub all : (f : Field) → One f names → good f ≡ true

-- a name that a concept may have
abbrev pub concept_name : Field → Bool
concept_name f = is_name f && not (reserved f)

-- the names declared so far: of each kind no name twice, and all of them good
pub record Proper (n : Names) : Type 0 where
  pub concepts : Listed concept_name n.concepts
  pub roles : Listed is_name n.roles
  pub items : Listed is_name n.items

-- each of the names has a hint, which is not 0; where it points to is only tried
abbrev pub Hinted : List ℕ → ℕ → List Field → Type 0
Hinted numbers from names = (w : Field) → One w names → get_or numbers (hint_at from w) 0 ≡ 0 → ⊥

pub record AllHinted (numbers : List ℕ) (n : Names) : Type 0 where
  pub concepts : Hinted numbers concepts_from n.concepts
  pub roles : Hinted numbers roles_from n.roles
  pub items : Hinted numbers items_from n.items

-- a table that has all its entries, no more of them than any store has room for, and all names as declarations leave them
pub record Tidy (sheet : List ℕ) (t : Table) : Type 0 where
  pub long : items_from + t.counts.items ≤ length t.numbers
  pub room : Fits large t.counts
  pub proper : Proper (names_of sheet t)
  pub hinted : AllHinted t.numbers (names_of sheet t)
