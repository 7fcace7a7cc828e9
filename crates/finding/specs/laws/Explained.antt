-- From the parts of the search to the promise for a finding. Assumes nothing.
use Rattle.std.specs.Prelude.{◌≡◌, refl, Option, Some, None, Ok, Err, List, ℕ, length}
use Rattle.std.proofs.Common.{sym, subst}
use Rattle.store.specs.declared.Counts.{Counts}
use Rattle.store.specs.Cell.Cell.{In}
use Rattle.store.specs.Layout.{Holds, size, width_of}
use Rattle.sheet.specs.declared.Ended.{Ended}
use Rattle.sheet.specs.declared.Refused.{Refused}
use Rattle.field.specs.Names.{counts_of}
use Rattle.sheet.specs.own.Stands.{Opens, kept_table}
use Rattle.sheet.specs.laws.Count.{opens-held, opens-outcome, whole-refused}
use Rattle.finding.specs.Explained.{FindingExplained, explained_by}
use Rattle.sheet.specs.Reading.{refusal_as}
use Rattle.finding.specs.declared.Sides.{Sides}
use Rattle.finding.specs.Finding.{BrokenSub, ExplainsFinding, concept}
use Rattle.finding.specs.own.Sides.{Breaking, BrokenIf}
use Rattle.finding.specs.Finding.ExplainsFinding.{refused, not-broken, found}
use Rattle.why.specs.own.Asked.{Asked}
use Rattle.why.specs.Listed.{lines_of}
use Rattle.why.specs.laws.Listed.{listed-none}
use Rattle.why.specs.own.Writing.{Answered}
use Rattle.why.specs.Reason.{Reason}
use Rattle.why.specs.laws.Explained.{explains-asked, opens-counts}
use Rattle.finding.specs.laws.Finding.{broken-in}

module _ {sheet s numbers u : List ℕ} {e : Ended} (w : Opens (width_of s) sheet s numbers u e) (long : length s ≡ size (width_of s)) (k a : ℕ) (before : List ℕ) where
  -- a refused sheet
  pub finding-refused : {q : Refused} → e.read ≡ Err q → ExplainsFinding sheet s u k a before before (Err q)
  finding-refused z = refused (whole-refused refl long w z).reads refl

  -- an accepted one
  module _ {v : Unit {0}} (z : e.read ≡ Ok v) where
    counts-are : counts_of w.said.names ≡ e.kept.counts
    counts-are = opens-counts w

    -- what was found of the rule
    here : (r : Option Sides) → Breaking (width_of s) sheet (kept_table numbers e) u k a r → BrokenIf (width_of s) (counts_of w.said.names) w.said u k a r
    here r b = subst (λ (n : Counts). BrokenIf (width_of s) n w.said u k a r) (sym counts-are) (b (width_of s) w.said (opens-outcome w z) w.names)

    -- the rule is not there, of another kind or not broken
    pub finding-not : Breaking (width_of s) sheet (kept_table numbers e) u k a None → ExplainsFinding sheet s u k a before before (Err (refusal_as 0 25))
    finding-not b = not-broken long (opens-outcome w z) (opens-held w z) (here None b) refl

    module _ (r : Sides) (b : Breaking (width_of s) sheet (kept_table numbers e) u k a (Some r)) where
      broken-here : BrokenSub (width_of s) (counts_of w.said.names) w.said u k a r.left r.right
      broken-here = here (Some r) b

      -- the item is in the left concept: a reason can be asked for
      pub finding-asked : Asked sheet (kept_table numbers e) (In a r.left)
      finding-asked = explains-asked w long (In a r.left) before z (subst (λ (n : Counts). Holds (width_of s) n u (In a r.left)) counts-are (broken-in broken-here))

      -- it is found
      pub finding-found : {after : List ℕ} {m : ℕ} → Answered sheet (kept_table numbers e) (In a r.left) before after m → ExplainsFinding sheet s u k a before after (explained_by m (concept r.right))
      finding-found {after} h =
          let o = opens-outcome w z in
          let y = h (width_of s) w.said o w.names in
          subst (λ (j : ℕ). ExplainsFinding sheet s u k a before after (explained_by j (concept r.right))) (sym y.total)
          (found long o (opens-held w z) broken-here (subst (λ (n : Counts). Reason n (In a r.left) w.said.statements y.lines) (sym counts-are) y.reason) y.listed)

-- a list of no place gets what another does
pub finding-none : {sheet s t : List ℕ} {k a : ℕ} {before after room : List ℕ} {r : FindingExplained} → length room ≡ 0 → ExplainsFinding sheet s t k a before after r → ExplainsFinding sheet s t k a room room r
finding-none z (refused h e) = refused h refl
finding-none z (not-broken l o h f e) = not-broken l o h f refl
finding-none {room = room} z (found {lines = lines} l o h b r e) = found l o h b r (listed-none (lines_of lines) room z)
