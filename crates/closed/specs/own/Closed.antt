-- What the test of a closed store asks, part by part, of the rows of its words.
use Rattle.std.specs.Prelude.{◌⊎◌, Bool, List, ℕ, ◌+◌, ◌*◌, ◌/◌, ◌%◌, ◌≤◌, ◌<◌, get_or}
use Rattle.row.specs.Bit.{Has}
use Rattle.row.specs.own.Change.{gathered}
use Rattle.inspect.specs.own.Test.{AllSpread, Reflexive, RowsInclude, WordIncludes}
use Rattle.inspect.specs.own.Below.{BlocksBelow, RowsBelow}
use Rattle.store.specs.declared.Counts.{Counts}
use Rattle.store.specs.declared.Layout.{Layout}
use Rattle.store.specs.Layout.{concept_limit, item_limit, role_limit}
use Rattle.store.specs.own.RoleWord.{paired, turned}
use Rattle.store.specs.Cell.{DeclaredItem}

-- bit k of a role's word is a step, plain or to the inverse, to one of n roles
abbrev pub RoleBit : ℕ → ℕ → Type 0
RoleBit n k = (k < n) ⊎ ((role_limit ≤ k) × (k < role_limit + n))

-- of the roles' words at `at` only the first n have bits, and only steps to the first n roles
abbrev pub RolesBelow : List ℕ → ℕ → ℕ → ℕ → Type 0
RolesBelow s at count n = (r : ℕ) → r < count → (k : ℕ) → Has (get_or s (at + r) 0) k → (r < n) × RoleBit n k

-- each of the first `rows` roles' words at `at`, and so its inverse, includes the words of its steps
abbrev pub RoleSteps : List ℕ → ℕ → ℕ → ℕ → Type 0
RoleSteps s at rows n = (r : ℕ) → r < rows → (u : Bool) → WordIncludes s (turned u (get_or s (at + r) 0)) at n

-- the roles that link a to b
abbrev pub link_word : Layout → List ℕ → ℕ → ℕ → ℕ → ℕ
link_word at s n a b = gathered s (at.link + a * at.width + b / 64) (64 * at.width * at.width) (b % 64) n

-- the roles that link a to b, and above them those that link b to a
abbrev pub pair_word : Layout → List ℕ → ℕ → ℕ → ℕ → ℕ
pair_word at s n a b = paired (link_word at s n a b) (link_word at s n b a)

-- the word of the pair a and b includes the words of its roles
abbrev pub PairIncludes : Layout → List ℕ → ℕ → ℕ → ℕ → Type 0
PairIncludes at s n a b = WordIncludes s (pair_word at s n a b) at.role n

-- all bits but those of cells within the counts are 0
pub record Clean (at : Layout) (n : Counts) (s : List ℕ) : Type 0 where
  pub same : RowsBelow s 0 (item_limit at.width) at.width n.items n.items
  pub under : RowsBelow s at.under concept_limit 1 n.concepts n.concepts
  pub role : RolesBelow s at.role role_limit n.roles
  pub item : RowsBelow s at.item (item_limit at.width) 1 n.items n.concepts
  pub link : BlocksBelow s at.link role_limit at.width n.roles n.items

-- each item is the same as itself, and what is the same as it is the same as all that are
pub record SameRules (at : Layout) (n : Counts) (s : List ℕ) : Type 0 where
  pub reflexive : Reflexive s 0 at.width n.items
  pub spread : AllSpread s 0 at.width 0 at.width n.items (item_limit at.width * at.width) 1

-- each concept is under itself, and under what the concepts above it are under
pub record ConceptRules (at : Layout) (n : Counts) (s : List ℕ) : Type 0 where
  pub reflexive : Reflexive s at.under 1 n.concepts
  pub include : RowsInclude s at.under n.concepts at.under 1 n.concepts

-- each role is under itself, and under what the roles above it are under
pub record RoleRules (at : Layout) (n : Counts) (s : List ℕ) : Type 0 where
  pub reflexive : Reflexive s at.role 1 n.roles
  pub steps : RoleSteps s at.role n.roles n.roles

-- each item is in what its concepts are under, and in the concepts of the items that are the same
pub record ItemRules (at : Layout) (n : Counts) (s : List ℕ) : Type 0 where
  pub include : RowsInclude s at.item n.items at.under 1 n.concepts
  pub spread : AllSpread s 0 at.width at.item 1 n.items (item_limit at.width) 1

-- the links go along what is the same, at both ends, and along the roles
pub record LinkRules (at : Layout) (n : Counts) (s : List ℕ) : Type 0 where
  pub rows : AllSpread s 0 at.width at.link at.width n.items (item_limit at.width * at.width) n.roles
  pub columns : RowsInclude s at.link (n.roles * item_limit at.width) 0 at.width n.items
  pub pairs : (a : ℕ) → DeclaredItem n a → (b : ℕ) → DeclaredItem n b → PairIncludes at s n.roles a b

-- all that the test asks
pub record Rules (at : Layout) (n : Counts) (s : List ℕ) : Type 0 where
  pub clean : Clean at n s
  pub same : SameRules at n s
  pub concepts : ConceptRules at n s
  pub roles : RoleRules at n s
  pub items : ItemRules at n s
  pub links : LinkRules at n s
