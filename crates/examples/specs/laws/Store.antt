-- The examples about the store. Assumes nothing.
use Rattle.std.proofs.Math.Path.{◌≡◌, refl}
use Rattle.std.proofs.Common.{sym, ap, subst, arith}
use Rattle.std.proofs.Math.Logic.{⊎_elim}
use Rattle.std.specs.Prelude.{List, [], ◌∷◌}
use Prim.Native.Nat.{ℕ, zero, suc, ◌<◌}
use Rattle.logic.specs.Number.{One, Number}
use Rattle.logic.specs.Number.One.{first, later}
use Rattle.logic.specs.Number.Distinct.{none, more}
use Rattle.logic.specs.laws.Lowest.{lowest-none}
use Rattle.logic.specs.laws.Number.{number-none, number-unique, one-cases, one_none}
use Rattle.row.specs.Bit.{Words}
use Rattle.store.specs.declared.Counts.{Counts}
use Rattle.closure.specs.Refusal.{Answer}
use Rattle.std.specs.Prelude.{Ok}
use Rattle.store.specs.Cell.{Cell, Nothing, With, Follows, DeclaredItem}
use Rattle.store.specs.Cell.Cell.{Same, Under, RoleUnder, In, Link}
use Rattle.store.specs.Cell.Follows.{given, same-sym}
use Rattle.store.specs.Cell.With.{old, new}
use Rattle.store.specs.Layout.{ClosedStore, Holds}
use Rattle.store.specs.Keeps.{Keeps, NewlyTrue}
use Rattle.closure.specs.Promise.{Adds}
use Rattle.closure.specs.Promise.Adds.{refused, added}
use Rattle.store.specs.laws.Least.{exact, closed-has, follows-all}
use Rattle.store.specs.laws.Reflexive.{fresh-exact}
use Rattle.closure.specs.laws.Refusals.{adds-unique, add_none}
use Rattle.examples.specs.Examples.{two_items}

-- a cell that holds adds nothing
adds-nothing : {W : ℕ} {n : Counts} {c : Cell} {s : List ℕ} → ClosedStore W n s → Holds W n s c → Adds W n c s s (Ok 0)
adds-nothing {W} {n} {c} {s} k h = added (add_none (record { long = k.long; fits = k.fits }) k h.within) (record { keeps = keeps; count = number-none (λ d x. x.before x.now) })
  where
    only : (d : Cell) → With (Holds W n s) c d → Follows n (Holds W n s) d
    only d (old x) = given x
    only d new = given h

    keeps : Keeps W n (With (Holds W n s) c) s
    keeps = record { store = k; sound = λ d x. given (old x); whole = λ d x. closed-has k.closed (follows-all only x) }

pub same-itself : {W : ℕ} {n : Counts} {s t : List ℕ} {a : ℕ} {r : Answer} → DeclaredItem n a → Words 64 s → Words 64 t → Keeps W n Nothing s → Adds W n (Same a a) s t r → r ≡ Ok 0
same-itself h ws wt k x = (adds-unique wt ws x (adds-nothing k.store (k.store.closed.obeys.same_refl h))).1

-- the two cells that are new
both : List Cell
both = Same 0 1 ∷ Same 1 0 ∷ []

module _ {W : ℕ} {s t : List ℕ} (k : Keeps W two_items Nothing s) (l : Keeps W two_items (With (Holds W two_items s) (Same 0 1)) t) where
  -- a fresh store does not hold that different items are the same
  not-before : (a b : ℕ) → Holds W two_items s (Same a b) → a ≡ b
  not-before a b x = ((exact (fresh-exact two_items)).1 (k.sound (Same a b) x)).1

  case : (a b : ℕ) → a < 2 → b < 2 → ¬ (Holds W two_items s (Same a b)) → One (Same a b) both
  unfolding both
  case zero zero ha hb n = absurd (n (k.store.closed.obeys.same_refl ha))
  case zero (suc zero) ha hb n = first
  case (suc zero) zero ha hb n = later first
  case (suc zero) (suc zero) ha hb n = absurd (n (k.store.closed.obeys.same_refl ha))
  case (suc (suc a)) b ha hb n = absurd (omega arith)
  case zero (suc (suc b)) ha hb n = absurd (omega arith)
  case (suc zero) (suc (suc b)) ha hb n = absurd (omega arith)

  is-new : (c : Cell) → NewlyTrue W two_items s t c → One c both
  is-new (Same a b) x = case a b x.now.within.0 x.now.within.1 x.before
  is-new (Under a b) x = absurd (omega (arith, x.now.within.0))
  is-new (RoleUnder r u q) x = absurd (omega (arith, x.now.within.0))
  is-new (In a b) x = absurd (omega (arith, x.now.within.1))
  is-new (Link r a b) x = absurd (omega (arith, x.now.within.0))

  one_way : NewlyTrue W two_items s t (Same 0 1)
  one_way = record { now = l.whole (Same 0 1) (given new); before = λ x. absurd (omega (arith, not-before 0 1 x)) }

  other_way : NewlyTrue W two_items s t (Same 1 0)
  other_way = record { now = l.whole (Same 1 0) (same-sym (given new)); before = λ x. absurd (omega (arith, not-before 1 0 x)) }

  at-cell : {c d : Cell} → c ≡ d → NewlyTrue W two_items s t d → NewlyTrue W two_items s t c
  at-cell e x = subst (λ (d : Cell). NewlyTrue W two_items s t d) (sym e) x

  new_is : (c : Cell) → One c both → NewlyTrue W two_items s t c
  unfolding both
  new_is c x =
      ⊎_elim (λ e. at-cell e one_way) (λ y. ⊎_elim (λ e. at-cell e other_way) (λ z. absurd (one_none z)) (one-cases y)) (one-cases x)

  two : Number (NewlyTrue W two_items s t) 2
  unfolding both
  two = record { all = both; distinct = more apart (more one_none none); sound = new_is; whole = is-new; count = refl }
    where
      unlike : Same 0 1 ≡ Same 1 0 → ⊥
      unlike e = let z : ◌≡◌ {A = ℕ} 0 1 = cc in absurd (omega arith)

      apart : ¬ (One (Same 0 1) (Same 1 0 ∷ []))
      apart x = ⊎_elim unlike one_none (one-cases x)

pub same-two : {W : ℕ} {s t : List ℕ} {r : Answer} → Keeps W two_items Nothing s → Adds W two_items (Same 0 1) s t r → r ≡ Ok 2
same-two k (refused l e) = absurd (lowest-none l (add_none (record { long = k.store.long; fits = k.store.fits }) k.store (omega arith, omega arith)))
same-two k (added f x) = ap Ok (number-unique x.count (two k x.keeps))
