-- Which number applies to a conversion, and that it allows one result. Assumes nothing.
use Rattle.std.specs.Prelude.{◌≡◌, refl, ◌⊎◌, List, ℕ, ◌≤◌}
use Rattle.std.proofs.Common.{sym, ap, ◌∙◌, inl, inr, ⊎_elim, arith}
use Rattle.std.proofs.Math.Decide.{dec_lt}
use Rattle.logic.specs.Lowest.{Lowest, NoneApplies}
use Rattle.logic.specs.laws.Lowest.{lowest-none, lowest-unique}
use Rattle.logic.specs.laws.Number.{number-unique}
use Rattle.row.specs.Bit.{Words}
use Rattle.store.specs.declared.Counts.{Counts}
use Rattle.store.specs.Cell.{DeclaredItem}
use Rattle.store.specs.Layout.{ClosedStore, Fits, item_limit, width_of}
use Rattle.store.specs.laws.Cells.{unique}
use Rattle.store.specs.laws.Least.{obeys-iff}
use Rattle.convert.specs.declared.Refusal.{Refusal}
use Rattle.convert.specs.declared.Refusal.TheVariants.{Size, NotClosed, TooMany}
use Rattle.convert.specs.Promise.{Answer}
use Rattle.std.specs.Prelude.{Err, Ok}
use Rattle.convert.specs.Promise.{ConvertFault, Converts, Moved, NoPlace, Pair, number, other_width}
use Rattle.convert.specs.Promise.Converts.{refused, moved}
use Rattle.convert.specs.Promise.ConvertFault.{wrong_size, not-closed, too_many}
use Rattle.convert.specs.laws.Stable.{closed-stable}

-- an item has no place exactly if the first number without one is declared
pub over-place : {W : ℕ} {n : Counts} → DeclaredItem n (item_limit W) → NoPlace W n
over-place {W} l = record { item = item_limit W; declared = l; over = omega arith }

-- and the other way round
pub place-over : {W : ℕ} {n : Counts} → NoPlace W n → DeclaredItem n (item_limit W)
place-over p = omega (arith, p.declared, p.over)

-- the counts are within the limits of any store that has a place for each item
pub fits-other : {W W' : ℕ} {n : Counts} → Fits W n → ¬ (NoPlace W' n) → Fits W' n
fits-other {W} {W'} {n} f p = record { items = go (dec_lt (item_limit W') n.items); concepts = f.concepts; roles = f.roles }
  where
    go : Dec (DeclaredItem n (item_limit W')) → n.items ≤ item_limit W'
    go (yes l) = absurd (p (over-place l))
    go (no l) = omega arith

-- ---- the numbers that apply, one by one

fault-is : {n : Counts} {s t : List ℕ} {j : ℕ} → ConvertFault n s t j
    → ((j ≡ 1) × ¬ (Pair n s t)) ⊎ (((j ≡ 2) × ¬ (ClosedStore (width_of s) n s)) ⊎ ((j ≡ 26) × NoPlace (other_width (width_of s)) n))
fault-is (wrong_size x) = inl (refl, x)
fault-is (not-closed x) = inr (inl (refl, x))
fault-is (too_many x) = inr (inr (refl, x))

module _ {n : Counts} {s t : List ℕ} where
  -- each number, where no lower one applies
  pub refused-1 : ¬ (Pair n s t) → Lowest (ConvertFault n s t) 1
  refused-1 x = record {
    applies = wrong_size x;
    lowest = λ j l f. ⊎_elim (λ y. omega (arith, y.0)) (⊎_elim (λ y. omega (arith, y.0)) (λ y. omega (arith, y.0))) (fault-is f);
  }

  pub refused-2 : Pair n s t → ¬ (ClosedStore (width_of s) n s) → Lowest (ConvertFault n s t) 2
  refused-2 p x = record {
    applies = not-closed x;
    lowest = λ j l f. ⊎_elim (λ y. y.1 p) (⊎_elim (λ y. omega (arith, y.0)) (λ y. omega (arith, y.0))) (fault-is f);
  }

  pub refused-26 : Pair n s t → ClosedStore (width_of s) n s → NoPlace (other_width (width_of s)) n → Lowest (ConvertFault n s t) 26
  refused-26 p k x = record {
    applies = too_many x;
    lowest = λ j l f. ⊎_elim (λ y. y.1 p) (⊎_elim (λ y. y.1 k) (λ y. omega (arith, y.0))) (fault-is f);
  }

  -- and none
  pub none-applies : Pair n s t → ClosedStore (width_of s) n s → ¬ (NoPlace (other_width (width_of s)) n) → NoneApplies (ConvertFault n s t)
  none-applies p k x j f = ⊎_elim (λ y. y.1 p) (⊎_elim (λ y. y.1 k) (λ y. x y.1)) (fault-is f)

  -- where none applies the source is closed
  pub none-closed : NoneApplies (ConvertFault n s t) → ClosedStore (width_of s) n s
  none-closed f = closed-stable (λ x. f 2 (not-closed x))

  -- and the counts are within the limits of the target
  pub none-fits : NoneApplies (ConvertFault n s t) → Fits (other_width (width_of s)) n
  none-fits f = fits-other (none-closed f).fits (λ p. f 26 (too_many p))

-- ---- one result

-- a number of refusal is that of one refusal
number-one : (j k : Refusal) → number j ≡ number k → j ≡ k
number-one Size Size e = refl
number-one Size NotClosed e = absurd (omega arith)
number-one Size TooMany e = absurd (omega arith)
number-one NotClosed Size e = absurd (omega arith)
number-one NotClosed NotClosed e = refl
number-one NotClosed TooMany e = absurd (omega arith)
number-one TooMany Size e = absurd (omega arith)
number-one TooMany NotClosed e = absurd (omega arith)
number-one TooMany TooMany e = refl

-- moved cells are those of a closed store
pub moved-closed : {W W' : ℕ} {n : Counts} {s u : List ℕ} → ClosedStore W n s → Fits W' n → Moved W W' n s u → ClosedStore W' n u
moved-closed k f m = record {
  fits = f;
  long = m.long;
  clean = m.clean;
  closed = record { within = λ x. x.within; obeys = obeys-iff (λ c. (m.cells c).0) (λ c. (m.cells c).1) k.closed.obeys };
}

-- a conversion allows one result
pub converts-unique : {n : Counts} {s t u v : List ℕ} {r q : Answer} → Words 64 u → Words 64 v → Converts n s t u r → Converts n s t v q → (u ≡ v) × (r ≡ q)
converts-unique wu wv (refused {k = j} a e) (refused {k = k} b e') = (e ∙ sym e', ap Err (number-one j k (lowest-unique a b)))
converts-unique wu wv (refused a e) (moved b m x) = absurd (lowest-none a b)
converts-unique wu wv (moved b m x) (refused a e) = absurd (lowest-none a b)
converts-unique wu wv (moved a m x) (moved b l y) =
    let k = none-closed a in
    let f = none-fits a in (
      unique (moved-closed k f m) (moved-closed k f l) wu wv (λ c h. (l.cells c).0 ((m.cells c).1 h)) (λ c h. (m.cells c).0 ((l.cells c).1 h)),
      ap Ok (number-unique x y),
    )
