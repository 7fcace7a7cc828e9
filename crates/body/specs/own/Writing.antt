-- What the parts of compiling ask and leave: a cursor that writes items into a room, and lengths that stop at one past the limit.
use Rattle.std.specs.Prelude.{◌≡◌, List, [], ◌∷◌, ℕ, ◌+◌, ◌*◌, ◌-◌, ◌≤◌, ◌<◌, min, length}
use Rattle.std.proofs.lemmas.List.Edits.{sets}
use Rattle.rule.specs.declared.Head.{Head}
use Rattle.rule.specs.declared.RoleUse.{RoleUse}
use Rattle.rule.specs.declared.Slot.{Slot}
use Rattle.rule.specs.Form.{count_limit}
use Rattle.rule.specs.Expr.{Expr}
use Rattle.rule.specs.Expr.Expr.{name, top, neg, both, many, own, one}
use Rattle.body.specs.declared.Cursor.{Cursor}
use Rattle.body.specs.declared.Kind.{Kind}
use Rattle.body.specs.declared.Kind.TheVariants.{Concept, Role, Equality, Open, Close}
use Rattle.body.specs.Body.{first_item, flat, size}
use Rattle.body.specs.Translation.{variables, turns, news, apart, pairs, of_expr, path}
use Rattle.body.specs.Length.{length_of, head_length, item_limit}

-- ---- numbers that can be written as words

abbrev pub SmallRole : RoleUse → Type 0
SmallRole u = u.role.0 < first_item

abbrev pub SmallPath : List RoleUse → Type 0
SmallPath [] = Unit {0}
SmallPath (r ∷ rs) = SmallRole r × SmallPath rs

abbrev pub Small : Expr → Type 0
Small (name c) = c.0 < first_item
Small top = Unit {0}
Small (neg c) = Small c
Small (both c d) = Small c × Small d
Small (many n u c) = (n ≤ count_limit) × SmallRole u × Small c
Small (own u) = SmallRole u
Small (one a) = a.0 < first_item

-- ---- writing

-- the word of a kind
abbrev pub word_of : Kind → ℕ
word_of Concept = 1
word_of Role = 2
word_of Equality = 3
word_of Open = 4
word_of Close = 5

-- the words ws were written at the cursor's place and all else is as it was; so many variables were taken
pub record Wrote (before after : List ℕ) (c r : Cursor) (ws : List ℕ) (vars : ℕ) : Type 0 where
  pub room : after ≡ sets before c.place ws
  pub place : r.place ≡ c.place + length ws
  pub next : r.next ≡ c.next + vars

-- there is room for k items at the cursor's place, and the role can be written
pub record RoomFor (room : List ℕ) (c : Cursor) (k : ℕ) (u : RoleUse) : Type 0 where
  pub fits : c.place + 4 * k ≤ length room
  pub small : SmallRole u

-- there is room for the items of e, and there are numbers for its variables
pub record Roomy (room : List ℕ) (c : Cursor) (e : Expr) : Type 0 where
  pub fits : c.place + 4 * length_of e ≤ length room
  pub vars : c.next + variables e ≤ first_item
  pub small : Small e

-- e was written of the term t
pub record Written (before after : List ℕ) (c r : Cursor) (t : ℕ) (e : Expr) : Type 0 where
  pub wrote : Wrote before after c r (flat (of_expr e t c.next)) (variables e)

-- the same for n turns of at least
pub record RoomyTurns (room : List ℕ) (c : Cursor) (u : RoleUse) (e : Expr) (n : ℕ) : Type 0 where
  pub fits : c.place + 4 * (n * (1 + length_of e)) ≤ length room
  pub vars : c.next + n * (variables e + 1) ≤ first_item
  pub count : n ≤ count_limit
  pub role : SmallRole u
  pub small : Small e

pub record Turned (before after : List ℕ) (c r : Cursor) (t : ℕ) (u : RoleUse) (e : Expr) (n : ℕ) : Type 0 where
  pub wrote : Wrote before after c r (flat (turns (of_expr e) u (variables e + 1) n t c.next)) (n * (variables e + 1))

-- the same for the nots between a variable and those after it
pub record RoomyApart (room : List ℕ) (c : Cursor) (z stride n : ℕ) : Type 0 where
  pub fits : c.place + 12 * n ≤ length room
  pub vars : z + n * stride ≤ first_item

pub record Parted (before after : List ℕ) (c r : Cursor) (y z stride n : ℕ) : Type 0 where
  pub wrote : Wrote before after c r (flat (apart y (news stride n z))) 0

-- the same for the nots between the new variables
pub record RoomyPairs (room : List ℕ) (c : Cursor) (y stride n : ℕ) : Type 0 where
  pub fits : c.place + 4 * size (pairs (news stride n y)) ≤ length room
  pub vars : y + n * stride ≤ first_item

pub record Paired (before after : List ℕ) (c r : Cursor) (y stride n : ℕ) : Type 0 where
  pub wrote : Wrote before after c r (flat (pairs (news stride n y))) 0

-- the same for a path of the roles rs
pub record RoomyPath (room : List ℕ) (c : Cursor) (rs : List RoleUse) : Type 0 where
  pub fits : c.place + 4 * length rs ≤ length room
  pub vars : c.next + length rs ≤ first_item
  pub small : SmallPath rs

pub record Pathed (before after : List ℕ) (c r : Cursor) (t : ℕ) (rs : List RoleUse) : Type 0 where
  pub wrote : Wrote before after c r (flat (path rs t c.next)) (length rs - 1)

-- ---- lengths

-- the length of an expression, as far as one past the limit
pub record Capped (e : Expr) (r : ℕ) : Type 0 where
  pub is : r ≡ min (length_of e) (item_limit + 1)

-- the length of a rule's query where it is within the limit; over the limit where the query is
pub record Long (ns : List Slot) (h : Head) (r : ℕ) : Type 0 where
  pub exact : r ≤ item_limit → r ≡ head_length ns h
  pub over : item_limit < r → item_limit < head_length ns h
  pub bound : r ≤ 4 * item_limit
