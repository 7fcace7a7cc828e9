-- What document 02 says of conversions holds. Assumes nothing.
use Rattle.std.specs.Prelude.{◌≡◌, ◌↔◌, List, ℕ, ◌<◌, length}
use Rattle.std.proofs.Common.{sym, ap, ◌∙◌, subst, arith}
use Rattle.std.proofs.Math.Decide.{dec_lt}
use Rattle.logic.specs.Lowest.{Lowest, NoneApplies}
use Rattle.logic.specs.laws.Number.{number-iff, number-unique}
use Rattle.row.specs.Bit.{Words}
use Rattle.store.specs.declared.Counts.{Counts}
use Rattle.store.specs.Cell.{DeclaredItem}
use Rattle.store.specs.Layout.{ClosedStore, item_limit, large, size, small, width_of}
use Rattle.store.specs.laws.Cells.{unique}
use Rattle.store.specs.laws.Width.{width-large, width-of-small}
use Rattle.std.specs.Prelude.{Err, Ok}
use Rattle.convert.specs.declared.Refusal.{Refusal}
use Rattle.convert.specs.Promise.{Conversion, ConvertFault, Converts, Moved, NoPlace, Pair, other_width}
use Rattle.convert.specs.Promise.Converts.{refused, moved}
use Rattle.convert.proofs.laws.Refusals.{converts-unique, moved-closed, none-applies, none-closed, none-fits, place-over, refused-26}
use Rattle.convert.specs.laws.Width.{other-large, other-other, other-small, other_width-long}

-- a closed store of width W, and a target as long as a store of the other width W'
module _ {W W' : ℕ} {n : Counts} {s t : List ℕ} (w : width_of s ≡ W) (o : other_width (width_of s) ≡ W') (k : ClosedStore W n s) (l : length t ≡ size W') where
  sized-pair : Pair n s t
  sized-pair = let c : ClosedStore (width_of s) n s = rw w k in record { source = record { long = c.long; fits = c.fits }; target = l ∙ ap size (sym o) }

  possible : ¬ (NoPlace W' n) → NoneApplies (ConvertFault n s t)
  possible x = none-applies sized-pair (rw w k) (rw o x)

  impossible : NoPlace W' n → Lowest (ConvertFault n s t) 26
  impossible x = refused-26 sized-pair (rw w k) (rw o x)

-- a store that is moved twice has its cells where they were
module _ {n : Counts} {s u w : List ℕ} (k : ClosedStore (width_of s) n s) (a : Moved (width_of s) (other_width (width_of s)) n s u) (b : Moved (width_of u) (other_width (width_of u)) n u w) where
  returned : Moved (other_width (width_of s)) (width_of s) n u w
  returned =
      let e = other_width-long s u a.long in
      rw other-other at (subst (λ (W : ℕ). Moved W (other_width W) n u w) e b)

  same_store : Words 64 s → Words 64 w → ClosedStore (other_width (width_of s)) n u → w ≡ s
  same_store ws ww c =
      unique (moved-closed c k.fits returned) k ww ws (λ d h. (a.cells d).1 ((returned.cells d).1 h)) (λ d h. (returned.cells d).0 ((a.cells d).0 h))

-- ---- one by one

left-closed : {n : Counts} {s t u : List ℕ} {m : ℕ} → Converts n s t u (Ok m) → ClosedStore (other_width (width_of s)) n u
left-closed (moved f m x) = moved-closed (none-closed f) (none-fits f) m

there : {n : Counts} {s t : List ℕ} → ClosedStore small n s → length t ≡ size large → NoneApplies (ConvertFault n s t)
there {s = s} k l =
    let w = width-of-small s k.long in
    possible w (other-small _ (λ e. omega (arith, w, e))) k l (λ p. omega (arith, place-over p, k.fits.items))

module _ {n : Counts} {s t : List ℕ} (k : ClosedStore large n s) (l : length t ≡ size small) where
  back-refused : NoPlace small n → Lowest (ConvertFault n s t) 26
  back-refused = let w = width-large s k.long in impossible w (other-large _ w) k l

  back : NoneApplies (ConvertFault n s t) ↔ ((a : ℕ) → DeclaredItem n a → a < item_limit small)
  back =
      let w = width-large s k.long in
      (λ f a d. placed f a d (dec_lt a (item_limit small)), λ g. possible w (other-large _ w) k l (λ p. omega (arith, g p.item p.declared, p.over)))
    where
      placed : NoneApplies (ConvertFault n s t) → (a : ℕ) → DeclaredItem n a → Dec (a < item_limit small) → a < item_limit small
      placed f a d (yes x) = x
      placed f a d (no x) = absurd (f 26 (back-refused (record { item = a; declared = d; over = omega arith })).applies)

again : {n : Counts} {s t u v : List ℕ} {m : ℕ} → Converts n s t u (Ok m) → length v ≡ length s → NoneApplies (ConvertFault n u v)
again {s = s} {u = u} (moved f m x) l =
    let e = other_width-long s u m.long in
    let k = none-closed f in
    possible e (ap other_width e ∙ other-other s) (moved-closed k (none-fits f) m) (l ∙ k.long) (λ p. omega (arith, place-over p, k.fits.items))

same-words : {n : Counts} {s t u v w : List ℕ} {m k : ℕ} → Words 64 s → Words 64 w → Converts n s t u (Ok m) → Converts n u v w (Ok k) → (w ≡ s) × (k ≡ m)
same-words {n} {s} {u = u} ws ww (moved f m x) (moved g l y) =
    let k = none-closed f in
    let c = moved-closed k (none-fits f) m in
    let e = other_width-long s u m.long in (
      same_store k m l ws ww c,
      number-unique (number-iff (λ d h. (m.cells d).1 (rw e at h)) (λ d h. rw e ((m.cells d).0 h)) y) x,
    )

untouched : {n : Counts} {s t u : List ℕ} {k : Refusal} → Converts n s t u (Err k) → u ≡ t
untouched (refused a e) = e

-- all of it
pub conversion : (n : Counts) → Conversion n
conversion n = record {
  closed = left-closed;
  there = there;
  back = back;
  too_many = back-refused;
  again = again;
  same-words = same-words;
  one-result = converts-unique;
  untouched = untouched;
}
