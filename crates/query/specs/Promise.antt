-- What compiling a rule promises, for all counts, every rule and every room.
use Rattle.std.specs.Prelude.{◌≡◌, List, ◌++◌, ℕ, ◌*◌, ◌≤◌, ◌<◌, length, drop}
use Rattle.logic.specs.Lowest.{Lowest}
use Rattle.store.specs.declared.Counts.{Counts}
use Rattle.store.specs.Layout.{Fits}
use Rattle.rule.specs.declared.Rule.{Rule}
use Rattle.rule.specs.Form.{WellFormed, RuleWithin}
use Rattle.query.specs.Outcome.{Outcome}
use Rattle.query.specs.Outcome.{compiled_as}
use Rattle.std.specs.Prelude.{Err}
use Rattle.query.specs.declared.QueryRefusal.{QueryRefusal}
use Rattle.query.specs.declared.QueryRefusal.TheVariants.{Size, Malformed, Number, Long, Room}
use Rattle.body.specs.Body.{flat, size}
use Rattle.body.specs.Translation.{answers_of, query_of}
use Rattle.body.specs.Length.{item_limit}

-- the number of a refusal
abbrev pub number : QueryRefusal → ℕ
number Size = 1
number Malformed = 3
number Number = 4
number Long = 5
number Room = 6

-- which numbers apply to compiling a rule into the room; 1 is asked of the counts alone
pub data CompileFault (W : ℕ) (n : Counts) (u : Rule) (room : List ℕ) : ℕ → Type 0 where
  wrong_size : ¬ (Fits W n) → CompileFault W n u room 1
  malformed : ¬ (WellFormed u) → CompileFault W n u room 3
  wrong-number : ¬ (RuleWithin n u) → CompileFault W n u room 4
  too_long : item_limit < size (query_of u) → CompileFault W n u room 5
  no_room : length room < 4 * size (query_of u) → CompileFault W n u room 6

-- a rule that is compiled: the counts are within their limits, the rule is well formed and its numbers below their counts, the query is short enough and the room long enough
pub record Compilable (W : ℕ) (n : Counts) (u : Rule) (room : List ℕ) : Type 0 where
  pub fits : Fits W n
  pub form : WellFormed u
  pub within : RuleWithin n u
  pub short : size (query_of u) ≤ item_limit
  pub enough : 4 * size (query_of u) ≤ length room

-- A refusal leaves the room as it was. Otherwise the room begins with the query and goes on as it was, and the answer is the query's length and the number of its
-- answer variables.
pub data Compiles (W : ℕ) (n : Counts) (u : Rule) (before after : List ℕ) : Outcome → Type 0 where
  refused : {k : QueryRefusal} → Lowest (CompileFault W n u before) (number k) → after ≡ before → Compiles W n u before after (Err k)
  compiled : Compilable W n u before → after ≡ flat (query_of u) ++ drop (4 * size (query_of u)) before
      → Compiles W n u before after (compiled_as (size (query_of u)) (answers_of u.head))
