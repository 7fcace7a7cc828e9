-- What the findings and the query of a rule given as words promise, for all words.
use Rattle.std.specs.Prelude.{◌≡◌, List, [], ◌∷◌, ◌++◌, ℕ, min, ◌+◌, ◌*◌, ◌-◌, ◌/◌, ◌^◌, ℤ, pos, neg_ℤ, length, take, drop}
use Rattle.logic.specs.Lowest.{Lowest}
use Rattle.store.specs.declared.Counts.{Counts}
use Rattle.store.specs.Layout.{Holds, large, width_of}
use Rattle.rule.specs.declared.Finding.{Finding}
use Rattle.rule.specs.Second.{Second}
use Rattle.std.specs.Prelude.{None, Some}
use Rattle.rule.specs.Findings.{Findings}
use Rattle.judge.specs.Promise.{Judged, RuleFault}
use Rattle.query.specs.Outcome.{Outcome}
use Rattle.std.specs.Prelude.{Err, Ok}
use Rattle.query.specs.Promise.{number, Compiles}
use Rattle.spelled.specs.Rules.{rule_of}

-- the word of a second item; of none it is the largest word there is
abbrev pub second_word : Second → ℕ
second_word None = 2 ^ 64 - 1
second_word (Some i) = i.0

-- the words of findings: two each
unfoldable pub pair_words : List Finding → List ℕ
pair_words [] = []
pair_words (f ∷ fs) = f.item.0 ∷ second_word f.second ∷ pair_words fs

-- The findings of the rule that the words g say, in the store s: the list `before` is left as `after`.
pub data ListCode (n : Counts) (s g before after : List ℕ) : ℤ → Type 0 where
  -- minus the lowest number that applies
  refused : {k : ℕ} → Lowest (RuleFault (width_of s) n (rule_of g) s) k → after ≡ before → ListCode n s g before after (neg_ℤ (pos k))
  -- the number of all findings; the first ones, as many as fit, are written
  listed : {fs : List Finding} → Judged (width_of s) n (rule_of g) s → Findings (Holds (width_of s) n s) n 0 (rule_of g) fs
      → after ≡ pair_words (take (min (length fs) (length before / 2)) fs) ++ drop (2 * min (length fs) (length before / 2)) before → ListCode n s g before after (pos (length fs))

-- the answer of compiling: four times the items and the answer variables, or minus the number of refusal
abbrev pub outcome_code : Outcome → ℤ
outcome_code (Ok c) = pos (4 * c.items + c.answers)
outcome_code (Err k) = neg_ℤ (pos (number k))

-- The query of the rule that the words g say: the room `before` is left as `after`.
pub record CompileCode (n : Counts) (g before after : List ℕ) (r : ℤ) : Type 0 where
  pub answer : Outcome
  pub compiles : Compiles large n (rule_of g) before after answer
  pub code : r ≡ outcome_code answer
