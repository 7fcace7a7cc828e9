-- What is settled of an answer: the store, the refusal, and whether there is a reason, with the concept that is absent. Which reason it is, is not. Assumes nothing.
use Rattle.std.specs.Prelude.{◌≡◌, refl, List, ℕ}
use Rattle.std.proofs.Common.{sym, ap, ◌∙◌, subst}
use Rattle.row.specs.Bit.{Words}
use Rattle.store.specs.declared.Counts.{Counts}
use Rattle.store.specs.Layout.{width_of}
use Rattle.rule.specs.declared.Rule.{Rule}
use Rattle.field.specs.Names.{counts_of}
use Rattle.sheet.specs.Said.{Said, outcome}
use Rattle.sheet.specs.Said.Outcome.{accepted}
use Rattle.sheet.specs.laws.Pass.{said_of}
use Rattle.sheet.specs.laws.Unique.{reads-unique}
use Rattle.why.specs.laws.Settled.{not-refused, reading-same, same_store}
use Rattle.finding.specs.Explained.{FindingExplained}
use Rattle.finding.specs.Finding.{BrokenSub, ExplainsFinding, SubOfNames, concept}
use Rattle.finding.specs.Finding.ExplainsFinding.{refused as refused_finding, not-broken, found as found_finding}
use Rattle.finding.specs.Settled.{SameFinding}
use Rattle.finding.specs.laws.Finding.{right_unique, rule-unique}

-- a rule broken in one store of the sheet is broken in any other
broken-there : (W : ℕ) (sheet : List ℕ) {t u : List ℕ} {k a c d : ℕ} (x y : Said) → t ≡ u → outcome W sheet ≡ accepted x → outcome W sheet ≡ accepted y → BrokenSub W (counts_of y.names) y u k a c d
    → BrokenSub W (counts_of x.names) x t k a c d
broken-there W sheet {t} {k = k} {a = a} {c = c} {d = d} x y e o p b =
    let z = subst (λ (v : List ℕ). BrokenSub W (counts_of y.names) y v k a c d) (sym e) b in
    subst (λ (w : Said). BrokenSub W (counts_of w.names) w t k a c d) (ap said_of (sym p ∙ o)) z

-- its right side is one concept
broken-right-unique : {W : ℕ} {x : Said} {n : Counts} {t : List ℕ} {k a c d c' d' : ℕ} → BrokenSub W n x t k a c d → BrokenSub W n x t k a c' d' → concept d ≡ concept d'
broken-right-unique {c' = c'} {d' = d'} b g = right_unique b.names (subst (λ (u : Rule). SubOfNames u c' d') (rule-unique g.there b.there) g.names)

pub finding-settled : {sheet s t u : List ℕ} {k a : ℕ} {before after other : List ℕ} {r q : FindingExplained} → Words 64 t → Words 64 u → ExplainsFinding sheet s t k a before after r → ExplainsFinding sheet s u k a before other q
    → (t ≡ u) × SameFinding r q
finding-settled {sheet} {s} wt wu (refused_finding a e) (refused_finding b f) = let z = reads-unique wt wu a b in (z.0, reading-same z.1)
finding-settled {sheet} {s} wt wu (refused_finding a e) (not-broken {x = y} l o h g f) = absurd (not-refused y l o a tt)
finding-settled {sheet} {s} wt wu (refused_finding a e) (found_finding {x = y} l o h g r f) = absurd (not-refused y l o a tt)
finding-settled {sheet} {s} wt wu (not-broken {x = x} l o h g f) (refused_finding b e) = absurd (not-refused x l o b tt)
finding-settled {sheet} {s} wt wu (not-broken {x = x} l o h g f) (not-broken {x = y} m p i j e) = (same_store (width_of s) sheet x y wt wu o p h i, (refl, refl))
finding-settled {sheet} {s} wt wu (not-broken {x = x} l o h g f) (found_finding {x = y} m p i j r e) = absurd (g _ _ (broken-there (width_of s) sheet x y (same_store (width_of s) sheet x y wt wu o p h i) o p j))
finding-settled {sheet} {s} wt wu (found_finding {x = x} l o h g r f) (refused_finding b e) = absurd (not-refused x l o b tt)
finding-settled {sheet} {s} wt wu (found_finding {x = x} l o h g r f) (not-broken {x = y} m p i j e) = absurd (j _ _ (broken-there (width_of s) sheet y x (same_store (width_of s) sheet y x wu wt p o i h) p o g))
finding-settled {sheet} {s} wt wu (found_finding {x = x} l o h g r f) (found_finding {x = y} m p i j w e) =
    let same = same_store (width_of s) sheet x y wt wu o p h i in
    (same, broken-right-unique g (broken-there (width_of s) sheet x y same o p j))
