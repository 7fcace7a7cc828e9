-- The first half of demand 2, for every closed store and every well-formed rule. Assumes nothing.
use Rattle.std.specs.Prelude.{refl, List, ℕ}
use Rattle.store.specs.declared.Counts.{Counts}
use Rattle.rule.specs.declared.Finding.{Finding}
use Rattle.rule.specs.declared.Rule.{Rule}
use Rattle.judge.specs.Total.{Total}
use Rattle.rule.specs.Findings.{finding_of}
use Rattle.judge.specs.Promise.{Judged, Lists, number}
use Rattle.judge.specs.Promise.Lists.{refused, listed}
use Rattle.judge.specs.Demand2.{Demand2}
use Rattle.rule.specs.laws.Findings.{findings-number}
use Rattle.judge.specs.laws.Refusals.{judged-none}

-- what the entry point promises is what the demand asks
pub demand-2 : {W : ℕ} {n : Counts} {k : ℕ} {u : Rule} {s : List ℕ} {before after : List Finding} {r : Total} → Judged W n u s → Lists W n k u s before after r → Demand2 W n k u s before after r
demand-2 j (refused {r = r} l e) = absurd (judged-none j (number r) l.applies)
demand-2 {k = k} j (listed {fs = fs} d f e) = record {
  findings = fs;
  exactly = λ x y. (λ o. (f.sound (finding_of k x y) o).1, f.whole x y);
  ordered = f.ordered;
  total = refl;
  number = findings-number f;
  written = e;
}
