-- A store that cannot but be closed is closed: all that it asks can be told. Assumes nothing.
use Rattle.std.specs.Prelude.{◌≡◌, List, ℕ, length}
use Rattle.std.proofs.Common.{sym, ap₂, ◌∙◌, subst}
use mathlib.Core.Logic.Dec
use Rattle.std.proofs.Math.Decide.{dec_le, ℕ_discrete}
use Rattle.store.specs.declared.Counts.{Counts}
use Rattle.store.specs.Cell.{Cell, Obeys, Within}
use Rattle.store.specs.Layout.{Cellular, ClosedStore, Fits, Holds, bit_of, concept_limit, item_limit, role_limit, size, word_of}
use Rattle.store.specs.laws.Parts.{cell-at, cell_at}
use Rattle.store.specs.laws.Cells.{holds?, within?}

-- whether a bit is that of a cell can be told
cellular? : {W : ℕ} {n : Counts} → Fits W n → (i k : ℕ) → Dec (Cellular W n i k)
cellular? {W} {n} f i k = go (Dec.and (within? n (cell_at W i k)) (Dec.and (ℕ_discrete i (word_of W (cell_at W i k))) (ℕ_discrete k (bit_of (cell_at W i k)))))
  where
    At : Cell → Type 0
    At c = Within n c × ((i ≡ word_of W c) × (k ≡ bit_of c))

    go : Dec (At (cell_at W i k)) → Dec (Cellular W n i k)
    go (yes x) = yes (record { cell = cell_at W i k; within = x.0; word = x.1.0; bit = x.1.1 })
    go (no x) = no (λ c. x (subst At (sym (ap₂ (cell_at W) c.word c.bit ∙ cell-at f c.cell c.within)) (c.within, (c.word, c.bit))))

module _ {W : ℕ} {n : Counts} {s : List ℕ} (x : ¬ (¬ (ClosedStore W n s))) where
  tell : {P : Type 0} → Dec P → (ClosedStore W n s → P) → P
  tell d f = (Dec.not-not d).0 (λ y. x (λ k. y (f k)))

  cell : {c : Cell} → (ClosedStore W n s → Holds W n s c) → Holds W n s c
  cell {c} f = tell (holds? W n s c) f

  obeys : Obeys n (Holds W n s)
  obeys = record {
    same_refl = λ h. cell (λ k. k.closed.obeys.same_refl h);
    same-sym = λ a. cell (λ k. k.closed.obeys.same-sym a);
    same-trans = λ a b. cell (λ k. k.closed.obeys.same-trans a b);
    under-refl = λ h. cell (λ k. k.closed.obeys.under-refl h);
    under-trans = λ a b. cell (λ k. k.closed.obeys.under-trans a b);
    role-refl = λ h. cell (λ k. k.closed.obeys.role-refl h);
    role-trans = λ a b. cell (λ k. k.closed.obeys.role-trans a b);
    in-under = λ a b. cell (λ k. k.closed.obeys.in-under a b);
    in-same = λ a b. cell (λ k. k.closed.obeys.in-same a b);
    link-under = λ a b. cell (λ k. k.closed.obeys.link-under a b);
    link-inverse = λ a b. cell (λ k. k.closed.obeys.link-inverse a b);
    link-same = λ a b c. cell (λ k. k.closed.obeys.link-same a b c);
  }

  fits : Fits W n
  fits = record {
    items = tell (dec_le n.items (item_limit W)) (λ k. k.fits.items);
    concepts = tell (dec_le n.concepts concept_limit) (λ k. k.fits.concepts);
    roles = tell (dec_le n.roles role_limit) (λ k. k.fits.roles);
  }

  -- such a store is closed
  pub closed-stable : ClosedStore W n s
  closed-stable = record {
    fits = fits;
    long = tell (ℕ_discrete (length s) (size W)) (λ k. k.long);
    clean = λ i j h. tell (cellular? fits i j) (λ k. k.clean i j h);
    closed = record { within = λ h. h.within; obeys = obeys };
  }
