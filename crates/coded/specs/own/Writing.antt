-- Findings written one after the other, and answers that fit a signed word.
use Rattle.std.specs.Prelude.{◌≡◌, List, ◌++◌, ℕ, suc, ◌*◌, ◌≤◌, ℤ, length, drop}
use Rattle.store.specs.Layout as stored
use Rattle.rule.specs.declared.Finding.{Finding}
use Rattle.judge.specs.declared.Search.{Search}
use Rattle.judge.specs.Total.{Total}
use Rattle.std.specs.Prelude.{Err, Ok}
use Rattle.refusal.specs.Signed.{AtMost, signed_of}
use Rattle.judge.specs.Promise.{number}
use Rattle.judge.specs.own.Search.{Met}
use Rattle.query.specs.Outcome.{Outcome}
use Rattle.body.specs.Length.{item_limit}
use Rattle.coded.specs.Promise.{pair_words}

-- n findings are written into the words l, from their start: the search that began at first stands at c, and the words are m
pub record WroteTo (s : List ℕ) (first : Search) (l : List ℕ) (n : ℕ) (c : Search) (m : List ℕ) : Type 0 where
  pub found : List Finding
  pub met : Met s first found c
  pub count : length found ≡ n
  pub words : m ≡ pair_words found ++ drop (2 * n) l

-- n findings are written into the words l, which are then m
pub record Written (s : List ℕ) (first : Search) (n : ℕ) (l m : List ℕ) : Type 0 where
  pub last : Search
  pub wrote : WroteTo s first l n last m

-- the number of findings, or minus the number of refusal
abbrev pub total_code : Total → ℤ
total_code = signed_of number

-- the most items of any store
abbrev pub most_items : ℕ
most_items = stored.item_limit stored.large

-- a total of the findings that one rule can have
abbrev pub SmallTotal : Total → Type 0
SmallTotal = AtMost (most_items * suc most_items)

-- an answer of compiling of the size that a query can have
abbrev pub SmallOutcome : Outcome → Type 0
SmallOutcome (Ok c) = (c.items ≤ item_limit) × (c.answers ≤ 2)
SmallOutcome (Err k) = Unit {0}
