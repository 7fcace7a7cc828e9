-- The findings of an accepted sheet's rules are its violations. Assumes nothing.
use Rattle.std.specs.Prelude.{◌≡◌, refl, ◌↔◌, List, ℕ}
use Rattle.std.proofs.Common.{sym, subst, arith}
use Rattle.logic.specs.Number.{One}
use Rattle.logic.specs.Number.One.{first}
use Rattle.store.specs.Cell.{Cell}
use Rattle.rule.specs.declared.Finding.{Finding}
use Rattle.rule.specs.declared.Rule.{Rule}
use Rattle.rule.specs.Second.{Second}
use Rattle.rule.specs.Breaks.{Breaks}
use Rattle.rule.specs.Findings.{finding_of}
use Rattle.field.specs.Names.{counts_of}
use Rattle.saying.proofs.laws.Judged.{Good}
use Rattle.sheet.specs.Promise.{FindingsFrom}
use Rattle.sheet.specs.Said.{RuleAt, Said, SheetRule, StatedIn, outcome}
use Rattle.sheet.specs.Said.Outcome.{accepted}
use Rattle.reason.specs.laws.Part.{one_right}
use Rattle.finding.specs.laws.Finding.{rule-unique}
use Rattle.paper.specs.Satisfied.{ICSatisfies}
use Rattle.paper.specs.laws.Canonical.{Settled, canonical}
use Rattle.paper.proofs.laws.TheoremB.{canonical-minimal}
use Rattle.paper.proofs.laws.TheoremC.{theorem-c, theorem-c-finding}
use Rattle.verdict.specs.Violations.{Violates, Violations}
use Rattle.verdict.specs.laws.Declared.{rules-good}
use Rattle.verdict.specs.laws.Turn.{Placed, from-has, from-placed, from-turn, turn-unique}

-- a sheet has one list of violations
pub violations-unique : {x : Said} {fs gs : List Finding} → Violations x fs → Violations x gs → fs ≡ gs
violations-unique a b = turn-unique a.ordered b.ordered (λ f o. (b.exactly f).1 ((a.exactly f).0 o)) (λ f o. (a.exactly f).1 ((b.exactly f).0 o))

-- C is what follows from the statements of the sheet
module _ (W : ℕ) (sheet : List ℕ) {x : Said} (o : outcome W sheet ≡ accepted x) {C : Cell → Type 0} (s : Settled (counts_of x.names) (StatedIn x) C) where
  good-at : {k : ℕ} {u : Rule} → RuleAt x k u → Good (counts_of x.names) u
  good-at {u = u} p =
      rules-good W sheet o (record { line = p.line; rule = u }) (subst (λ (rs : List SheetRule). One (record { line = p.line; rule = u }) rs) (sym p.is) (one_right p.before first))

  -- what breaks a rule violates it, and the other way round
  breaks-violates : {k : ℕ} {u : Rule} → RuleAt x k u → (a : ℕ) (b : Second) → Breaks C (counts_of x.names) u a b ↔ Violates x k a b
  breaks-violates {k} {u} p a b = (
    λ h. record { rule = u; there = p; breaks = λ I m. (theorem-c-finding s g.form g.within m a b).0 h },
    λ v. let w = good-at v.there in
        subst (λ (r : Rule). Breaks C (counts_of x.names) r a b) (rule-unique v.there p)
        ((theorem-c-finding s w.form w.within (canonical-minimal s) a b).1 (v.breaks (canonical s) (canonical-minimal s))),
  )
    where
      g : Good (counts_of x.names) u
      g = good-at p

  -- the findings of the rules are the violations
  pub found-violations : {fs : List Finding} → FindingsFrom C (counts_of x.names) 0 x.rules fs → Violations x fs
  found-violations {fs} m = record { exactly = λ f. (λ q. to f (from-placed m q), λ v. from f v); ordered = from-turn m }
    where
      to : (f : Finding) → Placed C (counts_of x.names) 0 x.rules f → Violates x f.rule f.item.0 f.second
      to f z = (breaks-violates {k = f.rule} (record { before = z.before; line = z.rule.line; after = z.after; is = z.is; place = omega (arith, z.place) }) f.item.0 f.second).0 z.breaks

      from : (f : Finding) → Violates x f.rule f.item.0 f.second → One f fs
      from f v =
          let p = v.there in
          subst (λ (j : ℕ). One (finding_of j f.item.0 f.second) fs) (omega (arith, p.place))
          (from-has p.before (record { line = p.line; rule = v.rule }) p.after (subst (λ (rs : List SheetRule). FindingsFrom C (counts_of x.names) 0 rs fs) p.is m) ((breaks-violates p f.item.0 f.second).1 v))

  -- a rule is satisfied exactly if none of them is a violation of it
  pub satisfied-none : {fs : List Finding} {k : ℕ} {u : Rule} → Violations x fs → RuleAt x k u → ICSatisfies (counts_of x.names) (StatedIn x) u ↔ ((f : Finding) → One f fs → ¬ (f.rule ≡ k))
  satisfied-none {k = k} v p =
      let g = good-at p in
      let c = theorem-c s g.form g.within in (
        λ z f q e. c.0 z f.item.0 f.second ((breaks-violates p f.item.0 f.second).1 (subst (λ (j : ℕ). Violates x j f.item.0 f.second) e ((v.exactly f).0 q))),
        λ none. c.1 (λ a b h. none (finding_of k a b) ((v.exactly (finding_of k a b)).1 ((breaks-violates p a b).0 h)) refl),
      )
