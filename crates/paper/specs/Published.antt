-- That the findings are the published reading: a field each, for a list of statements, and for a store that keeps what follows from statements;
-- so also for a closed store, with its own cells as those given.
use Rattle.std.specs.Prelude.{◌≡◌, ◌↔◌, List, ℕ, ◌*◌, length, take}
use Rattle.logic.specs.Number.{One}
use Rattle.store.specs.declared.Counts.{Counts}
use Rattle.store.specs.declared.Statement.{Statement}
use Rattle.store.specs.Cell.{Cell, DeclaredItem, Follows}
use Rattle.store.specs.Cell.Cell.{Same}
use Rattle.store.specs.Layout.{Holds}
use Rattle.closure.specs.Lines.{Stated}
use Rattle.rule.specs.declared.Finding.{Finding}
use Rattle.rule.specs.declared.Rule.{Rule}
use Rattle.rule.specs.Second.{Second}
use Rattle.std.specs.Prelude.{Ok}
use Rattle.rule.specs.Breaks.{Breaks}
use Rattle.rule.specs.Findings.{Findings, finding_of}
use Rattle.rule.specs.Form.{RuleWithin, WellFormed}
use Rattle.judge.specs.Promise.{Judged, Totals}
use Rattle.query.specs.Outcome.{compiled_as}
use Rattle.query.specs.Promise.{Compiles}
use Rattle.sense.specs.Says.{Answer}
use Rattle.paper.specs.Interpretation.{Interpretation, Entails, Minimal}
use Rattle.paper.specs.Satisfied.{ICSatisfies, ValueBreaks}

-- statements of declared names, one after another in a list
pub record Published (n : Counts) (lines : List Statement) : Type 1 where
  -- Theorem A: a cell follows exactly if every model satisfies it
  pub follows : (c : Cell) → Follows n (Stated lines) c ↔ Entails n (Stated lines) c
  -- Theorem B: in a model with minimal equality two items have one value exactly if they follow to be the same; and there is such a model
  pub equal : {I : Interpretation} {a b : ℕ} → Minimal n (Stated lines) I → DeclaredItem n a → DeclaredItem n b → (I.item a ≡ I.item b) ↔ Follows n (Stated lines) (Same a b)
  pub exists : (I : Interpretation) × Minimal n (Stated lines) I
  -- Theorem C: a rule is IC-satisfied exactly if nothing breaks it; and an item, or a pair, breaks it exactly if its value breaks the condition
  pub satisfied : {u : Rule} → WellFormed u → RuleWithin n u → ICSatisfies n (Stated lines) u ↔ ((x : ℕ) (y : Second) → ¬ (Breaks (Follows n (Stated lines)) n u x y))
  pub broken : {u : Rule} → WellFormed u → RuleWithin n u → {I : Interpretation} → Minimal n (Stated lines) I → (x : ℕ) (y : Second)
      → Breaks (Follows n (Stated lines)) n u x y ↔ ValueBreaks n (Minimal n (Stated lines)) I u.nodes u.head x y

-- a store s that keeps what follows from the cells given, and the rules that are judged in it
pub record PublishedStore (W : ℕ) (n : Counts) (Given : Cell → Type 0) (s : List ℕ) : Type 1 where
  -- there is a model with minimal equality, so that what is said of each of them is said of one at least
  pub exists : (I : Interpretation) × Minimal n Given I
  -- an item alone, or a pair, is among the findings exactly if its value breaks the condition
  pub finding : {k : ℕ} {u : Rule} {fs : List Finding} → Judged W n u s → Findings (Holds W n s) n k u fs → {I : Interpretation} → Minimal n Given I → (x : ℕ) (y : Second)
      → One (finding_of k x y) fs ↔ ValueBreaks n (Minimal n Given) I u.nodes u.head x y
  -- there are no findings exactly if the rule is IC-satisfied
  pub satisfied : {k : ℕ} {u : Rule} {fs : List Finding} → Judged W n u s → Findings (Holds W n s) n k u fs → ICSatisfies n Given u ↔ (length fs ≡ 0)
  -- and so the total that is reported is 0 exactly then
  pub total : {u : Rule} {m : ℕ} → Totals W n u s (Ok m) → ICSatisfies n Given u ↔ (m ≡ 0)
  -- 000, Theorem 1: a compiled rule is IC-satisfied exactly if its query has no answer
  pub query : {W' j items k : ℕ} {u : Rule} {fs : List Finding} {before after : List ℕ} → Judged W n u s → Findings (Holds W n s) n j u fs → Compiles W' n u before after (compiled_as items k)
      → ICSatisfies n Given u ↔ ((xs : List ℕ) → ¬ (Answer (Holds W n s) n k (take (4 * items) after) xs))
