-- What the entry points for rules by number promise, for every store, every rule and every number.
use Rattle.std.specs.Prelude.{◌≡◌, List, ◌++◌, ℕ, min, length, take, drop}
use Rattle.logic.specs.Lowest.{Lowest}
use Rattle.store.specs.declared.Counts.{Counts}
use Rattle.store.specs.Layout.{ClosedStore, Holds, Sized}
use Rattle.rule.specs.declared.Finding.{Finding}
use Rattle.rule.specs.declared.Rule.{Rule}
use Rattle.judge.specs.declared.RuleRefusal.{RuleRefusal}
use Rattle.judge.specs.declared.RuleRefusal.TheVariants.{Size, NotClosed, Malformed, Number}
use Rattle.judge.specs.Total.{Total}
use Rattle.std.specs.Prelude.{Err, Ok}
use Rattle.rule.specs.Form.{WellFormed, RuleWithin}
use Rattle.rule.specs.Findings.{Findings}

-- the number of a refusal
abbrev pub number : RuleRefusal → ℕ
number Size = 1
number NotClosed = 2
number Malformed = 3
number Number = 4

-- which numbers apply to a rule by number
pub data RuleFault (W : ℕ) (n : Counts) (u : Rule) (s : List ℕ) : ℕ → Type 0 where
  wrong_size : ¬ (Sized W n s) → RuleFault W n u s 1
  not-closed : ¬ (ClosedStore W n s) → RuleFault W n u s 2
  malformed : ¬ (WellFormed u) → RuleFault W n u s 3
  wrong-number : ¬ (RuleWithin n u) → RuleFault W n u s 4

-- a rule that is judged: the store is closed, the rule well formed and its numbers below their counts
pub record Judged (W : ℕ) (n : Counts) (u : Rule) (s : List ℕ) : Type 0 where
  pub sized : Sized W n s
  pub store : ClosedStore W n s
  pub form : WellFormed u
  pub within : RuleWithin n u

-- the total of a rule's findings in the store s
pub data Totals (W : ℕ) (n : Counts) (u : Rule) (s : List ℕ) : Total → Type 0 where
  refused : {k : RuleRefusal} → Lowest (RuleFault W n u s) (number k) → Totals W n u s (Err k)
  counted : {fs : List Finding} → Judged W n u s → Findings (Holds W n s) n 0 u fs → Totals W n u s (Ok (length fs))

-- a list that was lent, afterwards: the first of the findings as far as it reaches, then as it was
abbrev pub filled : List Finding → List Finding → List Finding
filled fs before = take (min (length fs) (length before)) fs ++ drop (min (length fs) (length before)) before

-- the findings of a rule in the store s, written into a list: the first ones as far as it reaches, what is past them as it was; the total counts all
pub data Lists (W : ℕ) (n : Counts) (k : ℕ) (u : Rule) (s : List ℕ) (before after : List Finding) : Total → Type 0 where
  refused : {r : RuleRefusal} → Lowest (RuleFault W n u s) (number r) → after ≡ before → Lists W n k u s before after (Err r)
  listed : {fs : List Finding} → Judged W n u s → Findings (Holds W n s) n k u fs
      → after ≡ filled fs before → Lists W n k u s before after (Ok (length fs))
