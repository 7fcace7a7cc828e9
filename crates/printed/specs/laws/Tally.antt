-- Laws of judging a rule: what is printed of it and what is counted. Assumes nothing.
use Rattle.std.specs.Prelude.{◌≡◌, List, ℕ, min, ◌+◌, ◌*◌, ◌-◌, ◌≤◌, length, take}
use Rattle.std.proofs.Common.{sym, ap, ◌∙◌, subst, arith, take_all}
use Rattle.std.proofs.Math.Logic.{by_cases}
use Rattle.std.proofs.Math.Decide.{dec_lt}
use Rattle.store.specs.declared.Counts.{Counts}
use Rattle.store.specs.declared.Layout.{Layout}
use Rattle.rule.specs.declared.Finding.{Finding}
use Rattle.judge.specs.declared.Prepared.{Prepared}
use Rattle.rule.specs.declared.Rule.{Rule}
use Rattle.judge.specs.own.Search.{Starts}
use Rattle.text.specs.Text.{Wrote}
use Rattle.field.specs.Names.{Names}
use Rattle.printed.specs.declared.Tally.{Tally}
use Rattle.sheet.specs.own.Pass.{counted_in}
use Rattle.printed.specs.own.Lines.{RuleLines, Tallied, finding_bound, lines_text}

-- the first ones as far as they reach
take_min : (k : ℕ) (fs : List Finding) → take (min (length fs) k) fs ≡ take k fs
take_min k fs = by_cases (dec_lt (length fs) k)
    (λ l. take_all (min (length fs) k) fs (omega arith) ∙ sym (take_all k fs (omega arith)))
    (λ l. let e : min (length fs) k ≡ k = omega arith in ap (λ (i : ℕ). take i fs) e)

-- a search that was begun and written is a rule that is judged
pub tallied : {s : List ℕ} {l : Layout} {n : Counts} {k : ℕ} {u : Rule} {names : Names} {line : ℕ} {room exit : List ℕ} {b : Tally} {p : Prepared} {r : ℕ} → Starts s l n k u b.left p
    → RuleLines s p.search p.write names line room b.at exit r → r ≤ b.at + finding_bound * p.write
    → Tallied l.width s n k u names line room b exit (record { at = r; left = b.left - p.write; total = b.total + counted_in p.answer })
tallied {s} {n = n} {k = k} {u = u} {names = names} {line = line} {room = room} {exit = exit} {b = b} {p = p} {r = r} z w h =
    let text : take p.write z.list ≡ take b.left z.list = ap (λ (i : ℕ). take i z.list) z.write ∙ take_min b.left z.list in
    record {
      list = z.list;
      findings = z.findings;
      wrote = subst (λ (fs : List Finding). Wrote room b.at (lines_text names line fs) exit r) text (w.wrote z.list z.coming (omega (arith, z.write)));
      left = omega (arith, z.write);
      total = ap (λ (t : ℕ). b.total + t) (ap counted_in z.answer);
      short = omega (arith, z.write);
    }
