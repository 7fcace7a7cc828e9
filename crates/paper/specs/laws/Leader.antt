-- The leader of an item: the lowest-numbered item that is the same. It stands for the article. Assumes nothing.
use Rattle.std.specs.Prelude.{◌≡◌, refl, ◌⊎◌, ℕ}
use Rattle.std.proofs.Common.{sym, inl, inr}
use Rattle.std.proofs.Math.Path.{subst}
use Rattle.std.proofs.Math.Logic.{⊎_elim}
use Rattle.std.proofs.Math.Decide.{ℕ_discrete}
use Rattle.logic.specs.Lowest.{Lowest}
use Rattle.logic.specs.laws.Lowest.{lowest-of, lowest-unique}
use Rattle.store.specs.declared.Counts.{Counts}
use Rattle.store.specs.Cell.{Cell, Obeys, DeclaredItem}
use Rattle.store.specs.Cell.Cell.{Same}

-- whether one thing or another holds can be told
pub either? : {P Q : Type 0} → Dec P → Dec Q → Dec (P ⊎ Q)
either? (yes p) q = yes (inl p)
either? (no p) (yes q) = yes (inr q)
either? (no p) (no q) = no (⊎_elim p q)

-- b is the same as a, or is a itself
abbrev Alike : (Cell → Type 0) → ℕ → ℕ → Type 0
Alike C a b = C (Same a b) ⊎ (a ≡ b)

module _ {n : Counts} {C : Cell → Type 0} (o : Obeys n C) (C? : (c : Cell) → Dec (C c)) where
  leading : (a : ℕ) → (m : ℕ) × Lowest (Alike C a) m
  leading a = lowest-of (λ b. either? (C? (Same a b)) (ℕ_discrete a b)) a (inr refl)

  -- the leader of an item
  pub leader : ℕ → ℕ
  leader a = (leading a).0

  -- it is the same as the item
  pub leader-same : {a : ℕ} → DeclaredItem n a → C (Same a (leader a))
  unfolding leader
  leader-same {a} h = ⊎_elim (λ x. x) (λ e. subst (λ (b : ℕ). C (Same a b)) e (o.same_refl h)) (leading a).1.applies

  alike_moved : {a b : ℕ} → C (Same a b) → (x : ℕ) → Alike C a x → Alike C b x
  alike_moved s x (inl h) = inl (o.same-trans (o.same-sym s) h)
  alike_moved {a} {b} s x (inr e) = inl (subst (λ (y : ℕ). C (Same b y)) e (o.same-sym s))

  -- items that are the same have one leader
  pub same-leader : {a b : ℕ} → C (Same a b) → leader a ≡ leader b
  unfolding leader
  same-leader {a} {b} s = lowest-unique (record {
    applies = alike_moved s (leading a).0 (leading a).1.applies;
    lowest = λ j l x. (leading a).1.lowest j l (alike_moved (o.same-sym s) j x);
  }) (leading b).1

  -- and items with one leader are the same
  pub leader-joins : {a b : ℕ} → DeclaredItem n a → DeclaredItem n b → leader a ≡ leader b → C (Same a b)
  leader-joins {a} {b} h l e = o.same-trans (leader-same h) (subst (λ (x : ℕ). C (Same x b)) (sym e) (o.same-sym (leader-same l)))
