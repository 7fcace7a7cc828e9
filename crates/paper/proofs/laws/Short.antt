-- Top and at most, which 000 writes otherwise: their values are the same. Assumes nothing.
use Rattle.std.specs.Prelude.{◌↔◌, List, [], ◌∷◌, ℕ, suc, ◌≤◌, ◌<◌, length}
use Rattle.std.proofs.Common.{arith}
use Rattle.std.proofs.Math.Decide.{dec_lt}
use Rattle.logic.specs.Number.{One, Distinct}
use Rattle.logic.specs.Number.One.{later}
use Rattle.logic.specs.Number.Distinct.{none, more}
use Rattle.store.specs.declared.Counts.{Counts}
use Rattle.rule.specs.declared.RoleUse.{RoleUse}
use Rattle.rule.specs.Expr.{Expr, at_most}
use Rattle.rule.specs.Expr.Expr.{top, neg, both}
use Rattle.paper.specs.Interpretation.{Interpretation}
use Rattle.paper.specs.Known.{AtLeast, KnownOf, KnownRole, Named}

-- of k or more elements, k
fewer : {I : Interpretation} {S : I.domain → Type 1} {ds : List I.domain} (k : ℕ) → Distinct ds → k ≤ length ds → ((d : I.domain) → One d ds → S d) → AtLeast I k S
fewer k none l f = record { elements = []; count = omega arith; distinct = none; each = f }
fewer {I} {S} k (more {x = x} {xs = xs} a r) l f = go (dec_lt (length xs) k) (λ h. fewer k r h (λ d o. f d (later o)))
  where
    go : Dec (length xs < k) → (k ≤ length xs → AtLeast I k S) → AtLeast I k S
    go (yes h) g = record { elements = x ∷ xs; count = omega arith; distinct = more a r; each = f }
    go (no h) g = g (omega arith)

module _ (n : Counts) (U : Interpretation → Type 1) (I : Interpretation) where
  -- 000, section 3.1: top is not bottom, and bottom is C and not C, for any C
  pub top-value : (c : Expr) (d : I.domain) → KnownOf n U I top d ↔ KnownOf n U I (neg (both c (neg c))) d
  unfolding KnownOf
  top-value c d = (λ v. (v, λ b. b.1.1 b.0), λ b. b.0)

  -- 000, section 4.1: at most j R C has the value of each item that R links to j or fewer elements of C
  pub at-most-value : (j : ℕ) (u : RoleUse) (c : Expr) (d : I.domain) → KnownOf n U I (at_most j u c) d
      ↔ (Named n I d × ((ds : List I.domain) → Distinct ds → ((e : I.domain) → One e ds → Named n I e × KnownRole n U I u d e × KnownOf n U I c e) → length ds ≤ j))
  unfolding KnownOf
  at-most-value j u c d = (λ v. (v.0, λ ds r f. short v ds r f (dec_lt j (length ds))), λ v. (v.0, λ b. omega (arith, b.1.count, v.1 b.1.elements b.1.distinct b.1.each)))
    where
      In : I.domain → Type 1
      In e = Named n I e × KnownRole n U I u d e × KnownOf n U I c e

      short : Named n I d × ¬ (Named n I d × AtLeast I (suc j) In) → (ds : List I.domain) → Distinct ds → ((e : I.domain) → One e ds → In e) → Dec (j < length ds) → length ds ≤ j
      short v ds r f (yes l) = absurd (v.1 (v.0, fewer (suc j) r (omega arith) f))
      short v ds r f (no l) = omega arith
