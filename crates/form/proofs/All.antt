-- `all` over the numbers below n, with a test that decides P of each and changes nothing. Assumes nothing.
use Rattle.std.specs.Prelude.{◌≡◌, refl, Bool, true, false, Option, List, ℕ, ◌<◌, length}
use Rattle.std.proofs.Common.{sym, subst, ◌∙◌, arith}
use Rattle.std.specs.Bool.{MatchBool}
use Rattle.std.specs.Fn.{Called, Mut}
use Rattle.std.specs.Iterator.{YieldsThen}
use Rattle.std.specs.List.{FoldsTo, range_with_len, AllWithin, HoldsAt}
use Rattle.std.specs.Option.{MatchOption}
use Rattle.std.proofs.lemmas.Iterator.{YieldsList, cases_from_all}
use Rattle.std.proofs.lemmas.List.FromFn.{length-range_with_len, get_or-range_with_len}
use Rattle.logic.specs.own.Decides.{Decides}
use Rattle.logic.specs.laws.Decides.{decides-yes, decides-no}

-- the numbers below n
abbrev below : ℕ → List ℕ
below n = range_with_len 0 n

module _ (P : ℕ → Type 0) (n : ℕ) where
  told : (r : Bool) → MatchBool r (AllWithin P (below n) 0 (length (below n))) ((k : ℕ) × (k < length (below n)) × HoldsAt (λ i. ¬ (P i)) (below n) k)
      → Decides r ((i : ℕ) → i < n → P i)
  told true h = decides-yes (λ i l. subst P (get_or-range_with_len 0 n i 0 l ∙ omega arith) (h i 0 (omega arith) (omega (arith, length-range_with_len 0 n))))
  told false h = decides-no (λ f. h.2 0 (subst P (sym (get_or-range_with_len 0 n h.0 0 (omega (arith, length-range_with_len 0 n)) ∙ omega arith)) (f h.0 (omega (arith, length-range_with_len 0 n)))))

  pub all_below : {S F : Type 0} {steps : S → Option ℕ → S → Type 0} {g : Mut F (ℕ × Unit {0}) Bool} {s : S} (u : S) (f : F) (r : Bool)
      → (xs : List ℕ) × (o : Option ℕ) × (j : F) × YieldsThen steps s xs o u × FoldsTo (λ p x q. Called g p (x, tt) true q) f xs j × MatchOption o (r ≡ true) (λ x. (r ≡ false) × ((h : F) × Called g j (x, tt) false h))
      → YieldsList steps (λ x. x) s (below n) → ((x : ℕ) (b : Bool) (q : F) → Called g f (x, tt) b q → (q ≡ f) × Decides b (P x)) → Decides r ((i : ℕ) → i < n → P i)
  all_below u f r d e k = told r (cases_from_all u f r P (λ i. ¬ (P i)) d e (λ x q c. let t = k x true q c in (t.0, t.1.holds refl)) (λ x q c. (k x false q c).1.fails refl))
