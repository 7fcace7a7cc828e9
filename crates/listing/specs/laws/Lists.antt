-- From what the writer does to the promise: the list begins with the first findings, and goes on as it was. Assumes nothing.
use Rattle.std.proofs.Common.{sym, ap, ◌∙◌, subst, arith}
use Rattle.std.specs.Prelude.{List, ◌++◌, ℕ, length, take, drop}
use Rattle.store.specs.declared.Counts.{Counts}
use Rattle.store.specs.Layout.{width_of}
use Rattle.rule.specs.declared.Finding.{Finding}
use Rattle.judge.specs.declared.Prepared.{Prepared}
use Rattle.rule.specs.declared.Rule.{Rule}
use Rattle.judge.specs.Total.{Total}
use Rattle.judge.specs.Promise.{Lists}
use Rattle.judge.specs.Promise.Lists.{refused, listed}
use Rattle.judge.specs.own.Search.{Met, Opens, Prepares}
use Rattle.judge.specs.own.Search.Opens.{refused as not_opened, judged}
use Rattle.judge.specs.laws.Search.{met-first}
use Rattle.listing.specs.own.Listing.{Written}
use Rattle.listing.specs.laws.Written.{written-first, written_none}

-- the writer's work is the listing
pub lists-by : {s : List ℕ} {n : Counts} {k : ℕ} {u : Rule} {before after : List Finding} {p : Prepared} → Prepares s n k u (length before) p → Written (Met s p.search) p.write before after
    → Lists (width_of s) n k u s before after p.answer
lists-by {s} {n} {k} {u} {before} {after} {p} a w = go a.opens
  where
    go : Opens s n k u (length before) p → Lists (width_of s) n k u s before after p.answer
    go (not_opened l e z) = subst (λ (r : Total). Lists (width_of s) n k u s before after r) (sym e) (refused l (written_none z w))
    go (judged {fs = fs} d f e z c) =
        subst (λ (r : Total). Lists (width_of s) n k u s before after r) (sym e)
        (listed d f (written-first fs (λ ms g m h. met-first m c h) (omega (arith, z)) w ∙ ap (λ (i : ℕ). take i fs ++ drop i before) z))
