-- The findings are the published reading. Assumes nothing.
use Rattle.std.specs.Prelude.{◌≡◌, refl, ◌↔◌, List, [], ◌∷◌, ℕ, length}
use mathlib.Core.Logic.Iff
use Rattle.std.proofs.Common.{arith}
use Rattle.logic.specs.Number.{One}
use Rattle.logic.specs.Number.One.{first}
use Rattle.logic.specs.laws.Number.{one_none}
use Rattle.store.specs.declared.Counts.{Counts}
use Rattle.store.specs.declared.Statement.{Statement}
use Rattle.store.specs.Cell.{Cell, Nothing, Within}
use Rattle.store.specs.Cell.Follows.{given}
use Rattle.store.specs.Layout.{ClosedStore, Holds}
use Rattle.store.specs.laws.Least.{closed-has}
use Rattle.closure.specs.Lines.{Run, Stated}
use Rattle.store.specs.Keeps.{Keeps}
use Rattle.closure.specs.laws.Demand3.{demand-3}
use Rattle.rule.specs.declared.Finding.{Finding}
use Rattle.rule.specs.declared.Rule.{Rule}
use Rattle.rule.specs.Second.{Second}
use Rattle.std.specs.Prelude.{Ok}
use Rattle.rule.specs.Breaks.{Breaks}
use Rattle.rule.specs.Findings.{Findings, finding_of}
use Rattle.judge.specs.Promise.{Judged, Totals}
use Rattle.judge.specs.Promise.Totals.{counted}
use Rattle.sense.specs.Demand2.{SameAnswers}
use Rattle.sense.specs.Says.{Answer}
use Rattle.sense.proofs.laws.Demand2.{demand-2-query}
use Rattle.paper.specs.Published.{Published, PublishedStore}
use Rattle.paper.specs.Satisfied.{ICSatisfies}
use Rattle.paper.specs.laws.Canonical.{canonical}
use Rattle.paper.specs.laws.TheoremA.{theorem-a}
use Rattle.paper.proofs.laws.TheoremB.{canonical-minimal, minimal-value}
use Rattle.paper.proofs.laws.TheoremC.{theorem-c, theorem-c-finding}
use Rattle.paper.specs.laws.Told.{settled_lines, settled-store}

-- for every list of statements that are made of declared names
pub published : {n : Counts} {lines : List Statement} → ((c : Cell) → Stated lines c → Within n c) → Published n lines
published w =
    let k = settled_lines w in
    record {
      follows = theorem-a k;
      equal = minimal-value k;
      exists = (canonical k, canonical-minimal k);
      satisfied = theorem-c k;
      broken = λ f g m. theorem-c-finding k f g m;
    }

-- the list of findings is empty exactly if nothing breaks the rule
no-finding : {C : Cell → Type 0} {n : Counts} {k : ℕ} {u : Rule} {fs : List Finding} → Findings C n k u fs → ((x : ℕ) (y : Second) → ¬ (Breaks C n u x y)) ↔ (length fs ≡ 0)
no-finding {C} {n} {k} {u} {fs} f = (λ none. empty fs f.sound none, λ e x y b. filled fs e (f.whole x y b))
  where
    empty : (gs : List Finding) → ((g : Finding) → One g gs → (g.rule ≡ k) × Breaks C n u g.item.0 g.second) → ((x : ℕ) (y : Second) → ¬ (Breaks C n u x y)) → length gs ≡ 0
    empty [] s none = omega arith
    empty (g ∷ gs) s none = absurd (none g.item.0 g.second (s g first).1)

    filled : {g : Finding} (gs : List Finding) → length gs ≡ 0 → ¬ (One g gs)
    filled [] e o = one_none o
    filled (h ∷ gs) e o = omega arith

module _ {W : ℕ} {n : Counts} {Given : Cell → Type 0} {s : List ℕ} (k : Keeps W n Given s) where
  store-satisfied : {j : ℕ} {u : Rule} {fs : List Finding} → Judged W n u s → Findings (Holds W n s) n j u fs → ICSatisfies n Given u ↔ (length fs ≡ 0)
  store-satisfied d f = Iff.trans (theorem-c (settled-store k) d.form d.within) (no-finding f)

  store-total : {u : Rule} {m : ℕ} → Totals W n u s (Ok m) → ICSatisfies n Given u ↔ (m ≡ 0)
  store-total (counted d f) = store-satisfied d f

  -- a query with the findings as its answers has none exactly if there are no findings
  no_answer : {k : ℕ} {ws : List ℕ} {fs : List Finding} → SameAnswers (Holds W n s) n k ws fs → (length fs ≡ 0) ↔ ((xs : List ℕ) → ¬ (Answer (Holds W n s) n k ws xs))
  no_answer {fs = []} a = (λ e xs z. one_none ((a.exactly xs).0 z).1, λ h. refl)
  no_answer {fs = f ∷ fs} a = (λ e. absurd (omega arith), λ h. let v = a.every f first in absurd (h v.0 ((a.exactly v.0).1 (f, first, v.1))))

  -- for every store that keeps what follows, however it was built
  pub published-store : PublishedStore W n Given s
  published-store = record {
    exists = (canonical (settled-store k), canonical-minimal (settled-store k));
    finding = λ {k = j} d f m x y.
        let r = theorem-c-finding (settled-store k) d.form d.within m x y in
        (λ o. r.0 (f.sound (finding_of j x y) o).1, λ v. f.whole x y (r.1 v));
    satisfied = store-satisfied;
    total = store-total;
    query = λ d f c. Iff.trans (store-satisfied d f) (no_answer (demand-2-query (Holds W n s) n c f));
  }

-- and so for every closed store, with its own cells as those given
pub published-closed : {W : ℕ} {n : Counts} {s : List ℕ} → ClosedStore W n s → PublishedStore W n (Holds W n s) s
published-closed k = published-store (record { store = k; sound = λ c h. given h; whole = λ c f. closed-has k.closed f })

-- for a store that is built line by line from a fresh one, and the lines that were accepted
pub published-run : {W : ℕ} {n : Counts} {s v : List ℕ} {lines kept : List Statement} {sum : ℕ} → Keeps W n Nothing s → Run W n s lines kept v sum → PublishedStore W n (Stated kept) v
published-run {W} {n} k r = published-store ((demand-3 W n).holds k r)
