-- Theorem B: in the models with minimal equality items have one value exactly if they follow to be the same, and there is such a model. Assumes nothing.
use Rattle.std.specs.Prelude.{◌≡◌, ◌↔◌, ℕ}
use Rattle.std.proofs.Common.{ap}
use Rattle.std.proofs.Math.Path.{ap₂, fst_path}
use Rattle.std.proofs.Math.Bool.{true, false}
use Rattle.store.specs.declared.Counts.{Counts}
use Rattle.store.specs.Cell.{Cell, DeclaredItem}
use Rattle.store.specs.Cell.Cell.{Same, Under, RoleUnder, In, Link}
use Rattle.store.specs.Cell.Follows.{given}
use Rattle.paper.specs.Interpretation.{Interpretation, Condition, Satisfies, Model, Less, Minimal}
use Rattle.paper.specs.laws.Sound.{follows-satisfied}
use Rattle.paper.specs.laws.Canonical.{Settled, canonical, canonical-exact, canonical-model, lead, settled-obeys}
use Rattle.paper.specs.laws.Leader.{leader-joins, same-leader}

module _ {n : Counts} {G C : Cell → Type 0} (k : Settled n G C) where
  -- ---- a model taken apart: each element once for each article, so that only what follows to be the same stays equal

  pub apart : Interpretation → Interpretation
  apart I = record { domain = I.domain × ℕ; concept = λ a d. I.concept a d.0; role = λ r d e. I.role r d.0 e.0; item = λ a. (I.item a, lead k a) }

  apart-condition : (I : Interpretation) (c : Cell) → C c → Condition I c → Condition (apart I) c
  unfolding apart
  apart-condition I (Same a b) x h = ap₂ {C = I.domain × ℕ} (λ d m. (d, m)) h (same-leader (settled-obeys k) k.tell x)
  apart-condition I (Under a b) x h = λ d. h d.0
  apart-condition I (RoleUnder r false s) x h = λ d e. h d.0 e.0
  apart-condition I (RoleUnder r true s) x h = λ d e. h d.0 e.0
  apart-condition I (In a b) x h = h
  apart-condition I (Link r a b) x h = h

  pub apart-model : {I : Interpretation} → Model n G I → Model n G (apart I)
  apart-model {I} m = record { satisfies = λ c g. record { within = k.stated c g; condition = apart-condition I c (k.whole c (given g)) (m.satisfies c g).condition } }

  -- what is equal in it follows to be the same
  pub apart-same : (I : Interpretation) {a b : ℕ} → Satisfies n (apart I) (Same a b) → C (Same a b)
  unfolding apart
  apart-same I s = leader-joins (settled-obeys k) k.tell s.within.0 s.within.1 (ap (λ (d : I.domain × ℕ). d.1) s.condition)

  -- and so it is less than the model, if not all that is equal there follows to be the same
  pub apart-less : {I : Interpretation} → ¬ ((a b : ℕ) → Satisfies n I (Same a b) → C (Same a b)) → Less n (apart I) I
  unfolding apart
  apart-less {I} f = record {
    concepts = λ a b. (λ h. record { within = h.within; condition = h.condition }, λ h. record { within = h.within; condition = h.condition });
    roles = λ r a b. (λ h. record { within = h.within; condition = h.condition }, λ h. record { within = h.within; condition = h.condition });
    some = λ a b h. record { within = h.within; condition = fst_path h.condition };
    not-all = λ g. f (λ a b s. apart-same I (g a b s));
  }

  -- ---- the theorem

  -- what is equal in a model with minimal equality follows to be the same
  minimal-same : {I : Interpretation} {a b : ℕ} → Minimal n G I → Satisfies n I (Same a b) → C (Same a b)
  minimal-same {I} {a} {b} m s = go (k.tell (Same a b))
    where
      go : Dec (C (Same a b)) → C (Same a b)
      go (yes x) = x
      go (no x) = absurd (m.least (apart I) (apart-model m.model) (apart-less (λ f. x (f a b s))))

  -- two items have one value exactly if they are the same
  pub minimal-value : {I : Interpretation} {a b : ℕ} → Minimal n G I → DeclaredItem n a → DeclaredItem n b → (I.item a ≡ I.item b) ↔ C (Same a b)
  minimal-value {a = a} {b = b} m h l = (λ e. minimal-same m (record { within = (h, l); condition = e }), λ x. (follows-satisfied m.model (k.sound (Same a b) x)).condition)

  -- a model where only what follows to be the same is equal has minimal equality
  pub minimal-if : {I : Interpretation} → Model n G I → ((a b : ℕ) → Satisfies n I (Same a b) → C (Same a b)) → Minimal n G I
  minimal-if m f = record { model = m; least = λ J j l. l.not-all (λ a b s. follows-satisfied j (k.sound (Same a b) (f a b s))) }

  -- so has the model of the articles
  pub canonical-minimal : Minimal n G (canonical k)
  canonical-minimal = minimal-if (canonical-model k) (λ a b. (canonical-exact k (Same a b)).1)
