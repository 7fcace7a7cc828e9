-- Lemmas 1 to 3 of 000, for statements of our five kinds. Assumes nothing.
use Rattle.std.specs.Prelude.{◌≡◌, ◌⊎◌, ◌↔◌, ℕ}
use Rattle.std.proofs.Common.{inl, inr}
use Rattle.store.specs.declared.Counts.{Counts}
use Rattle.store.specs.Cell.{Cell, DeclaredItem}
use Rattle.store.specs.Cell.Cell.{Same}
use Rattle.paper.specs.Interpretation.{Interpretation, Entails, Less, Minimal, Model, Satisfies}
use Rattle.paper.specs.laws.Sound.{follows-satisfied}
use Rattle.paper.specs.laws.Canonical.{Settled, canonical, canonical-exact}
use Rattle.paper.proofs.laws.TheoremB.{apart, apart-less, apart-model, apart-same, canonical-minimal, minimal-if, minimal-value}

module _ {n : Counts} {G C : Cell → Type 0} (k : Settled n G C) where
  -- Lemma 1: below each model that has not minimal equality there is one that has
  pub lemma-1 : {I : Interpretation} → Model n G I → ¬ (Minimal n G I) → (J : Interpretation) × Minimal n G J × Less n J I
  lemma-1 {I} m f = (apart k I, minimal-if k (apart-model k m) (λ a b. apart-same k I), apart-less k (λ g. f (minimal-if k m g)))

  -- Lemma 2: what all models with minimal equality satisfy is what all models satisfy
  pub lemma-2 : (c : Cell) → ((I : Interpretation) → Minimal n G I → Satisfies n I c) ↔ Entails n G c
  lemma-2 c = (
    λ f. record { everywhere = λ I m. follows-satisfied m (k.sound c ((canonical-exact k c).1 (f (canonical k) (canonical-minimal k)))) },
    λ e I m. e.everywhere I m.model,
  )

  -- Lemma 3: two items are equal in all models with minimal equality, or in none; so 000's Example 11 cannot arise
  pub lemma-3 : {a b : ℕ} → DeclaredItem n a → DeclaredItem n b
      → ((I : Interpretation) → Minimal n G I → I.item a ≡ I.item b) ⊎ ((I : Interpretation) → Minimal n G I → ¬ (I.item a ≡ I.item b))
  lemma-3 {a} {b} h l = go (k.tell (Same a b))
    where
      go : Dec (C (Same a b)) → ((I : Interpretation) → Minimal n G I → I.item a ≡ I.item b) ⊎ ((I : Interpretation) → Minimal n G I → ¬ (I.item a ≡ I.item b))
      go (yes x) = inl (λ I m. (minimal-value k m h l).1 x)
      go (no x) = inr (λ I m e. x ((minimal-value k m h l).0 e))
