-- Which number applies to compiling a rule, and that it allows one result. Assumes nothing.
use Rattle.std.specs.Prelude.{◌≡◌, refl, ◌⊎◌, cond, List, ◌++◌, ℕ, ◌+◌, ◌*◌, ◌≤◌, ◌<◌, eqb, length, drop}
use Rattle.std.proofs.Common.{sym, ap, subst, ◌∙◌, inl, inr, ⊎_elim, arith}
use Rattle.std.proofs.lemmas.List.Edits.{sets, sets-eq}
use Rattle.logic.specs.Lowest.{Lowest, NoneApplies}
use Rattle.logic.specs.laws.Lowest.{lowest-unique}
use Rattle.store.specs.declared.Counts.{Counts}
use Rattle.store.specs.Layout.{Fits, large}
use Rattle.rule.specs.declared.Rule.{Rule}
use Rattle.rule.specs.Form.{WellFormed, RuleWithin}
use Rattle.query.specs.Outcome.{Outcome}
use Rattle.query.specs.Outcome.{compiled_as}
use Rattle.std.specs.Prelude.{Err}
use Rattle.query.specs.declared.QueryRefusal.{QueryRefusal}
use Rattle.query.specs.declared.QueryRefusal.TheVariants.{Size, Malformed, Number, Long as TooLong, Room}
use Rattle.body.specs.Body.{flat, size}
use Rattle.body.specs.Translation.{answers_of, query_of}
use Rattle.body.specs.Length.{item_limit}
use Rattle.query.specs.Promise.{number, CompileFault, Compilable, Compiles}
use Rattle.query.specs.Promise.CompileFault.{wrong_size, malformed, wrong-number, too_long, no_room}
use Rattle.query.specs.Promise.Compiles.{refused, compiled}
use Rattle.body.specs.own.Writing.{Long}
use Rattle.query.specs.own.Filling.{Spacious, Filled}
use Rattle.body.specs.laws.Body.{length-flat}
use Rattle.body.specs.laws.Length.{head-length}
use Rattle.query.specs.laws.Small.{small-head}

module _ {W : ℕ} {n : Counts} {u : Rule} {room : List ℕ} where
  -- the numbers that apply, one by one
  fault-is : {j : ℕ} → CompileFault W n u room j
      → ((j ≡ 1) × ¬ (Fits W n)) ⊎ (((j ≡ 3) × ¬ (WellFormed u)) ⊎ (((j ≡ 4) × ¬ (RuleWithin n u)) ⊎ (((j ≡ 5) × (item_limit < size (query_of u))) ⊎ ((j ≡ 6) × (length room < 4 * size (query_of u))))))
  fault-is (wrong_size x) = inl (refl, x)
  fault-is (malformed x) = inr (inl (refl, x))
  fault-is (wrong-number x) = inr (inr (inl (refl, x)))
  fault-is (too_long x) = inr (inr (inr (inl (refl, x))))
  fault-is (no_room x) = inr (inr (inr (inr (refl, x))))

  -- counts over their limits are refused by 1
  pub refused-1 : ¬ (Fits W n) → Lowest (CompileFault W n u room) 1
  refused-1 x = record {
    applies = wrong_size x;
    lowest = λ j l f. ⊎_elim (λ a. omega (arith, a.0)) (⊎_elim (λ a. omega (arith, a.0)) (⊎_elim (λ a. omega (arith, a.0)) (⊎_elim (λ a. omega (arith, a.0)) (λ a. omega (arith, a.0))))) (fault-is f);
  }

  -- a malformed rule by 3
  pub refused-3 : Fits W n → ¬ (WellFormed u) → Lowest (CompileFault W n u room) 3
  refused-3 k x = record {
    applies = malformed x;
    lowest = λ j l f. ⊎_elim (λ a. a.1 k) (⊎_elim (λ a. omega (arith, a.0)) (⊎_elim (λ a. omega (arith, a.0)) (⊎_elim (λ a. omega (arith, a.0)) (λ a. omega (arith, a.0))))) (fault-is f);
  }

  -- a number that is not below its count by 4
  pub refused-4 : Fits W n → WellFormed u → ¬ (RuleWithin n u) → Lowest (CompileFault W n u room) 4
  refused-4 k w x = record {
    applies = wrong-number x;
    lowest = λ j l f. ⊎_elim (λ a. a.1 k) (⊎_elim (λ a. a.1 w) (⊎_elim (λ a. omega (arith, a.0)) (⊎_elim (λ a. omega (arith, a.0)) (λ a. omega (arith, a.0))))) (fault-is f);
  }

  -- a query that is too long by 5
  pub refused-5 : Fits W n → WellFormed u → RuleWithin n u → item_limit < size (query_of u) → Lowest (CompileFault W n u room) 5
  refused-5 k w i x = record {
    applies = too_long x;
    lowest = λ j l f. ⊎_elim (λ a. a.1 k) (⊎_elim (λ a. a.1 w) (⊎_elim (λ a. a.1 i) (⊎_elim (λ a. omega (arith, a.0)) (λ a. omega (arith, a.0))))) (fault-is f);
  }

  -- a room that is too small by 6
  pub refused-6 : Fits W n → WellFormed u → RuleWithin n u → size (query_of u) ≤ item_limit → length room < 4 * size (query_of u) → Lowest (CompileFault W n u room) 6
  refused-6 k w i s x = record {
    applies = no_room x;
    lowest = λ j l f. ⊎_elim (λ a. a.1 k) (⊎_elim (λ a. a.1 w) (⊎_elim (λ a. a.1 i) (⊎_elim (λ a. omega (arith, a.1)) (λ a. omega (arith, a.0))))) (fault-is f);
  }

  -- a rule that is compiled is not refused
  pub compilable-none : Compilable W n u room → NoneApplies (CompileFault W n u room)
  compilable-none d j f = ⊎_elim (λ a. a.1 d.fits) (⊎_elim (λ a. a.1 d.form) (⊎_elim (λ a. a.1 d.within) (⊎_elim (λ a. omega (arith, a.1, d.short)) (λ a. omega (arith, a.1, d.enough))))) (fault-is f)

-- ---- what the function returns

-- the length that the code has found is the query's where it is within the limit
pub exact-length : (u : Rule) (r : ℕ) → WellFormed u → Long u.nodes u.head r → r ≤ item_limit → r ≡ size (query_of u)
exact-length u r w h le = h.exact le ∙ sym (head-length u.len u.nodes u.head w.head)

pub over-length : (u : Rule) (r : ℕ) → WellFormed u → Long u.nodes u.head r → item_limit < r → item_limit < size (query_of u)
over-length u r w h lt = subst (λ m. item_limit < m) (sym (head-length u.len u.nodes u.head w.head)) (h.over lt)

pub spacious : (n : Counts) (u : Rule) (room : List ℕ) (r : ℕ) → Fits large n → WellFormed u → RuleWithin n u → Long u.nodes u.head r → r ≤ item_limit → 4 * r ≤ length room → Spacious room u.nodes u.head
spacious n u room r k w i h le fit = record { fits = subst (λ m. 4 * m ≤ length room) (h.exact le) fit; long = subst (λ m. m ≤ item_limit) (h.exact le) le; small = small-head n k u w i }

at_front : (l ws : List ℕ) → length ws ≤ length l → sets l 0 ws ≡ ws ++ drop (length ws) l
at_front l ws h = let e : 0 + length ws ≡ length ws = omega arith in sets-eq ws l 0 (omega arith) ∙ ap (λ n. ws ++ drop n l) e

pub long-refused : (n : Counts) (u : Rule) (room : List ℕ) (r : ℕ) → Fits large n → WellFormed u → RuleWithin n u → Long u.nodes u.head r → item_limit < r → Compiles large n u room room (Err TooLong)
long-refused n u room r k w i h lt = refused (refused-5 k w i (over-length u r w h lt)) refl

pub room-refused : (n : Counts) (u : Rule) (room : List ℕ) (r : ℕ) → Fits large n → WellFormed u → RuleWithin n u → Long u.nodes u.head r → r ≤ item_limit → length room < 4 * r → Compiles large n u room room (Err Room)
room-refused n u room r k w i h le lt =
    let e : r ≡ size (query_of u) = exact-length u r w h le in
    refused (refused-6 k w i (subst (λ m. m ≤ item_limit) e le) (subst (λ m. length room < 4 * m) e lt)) refl

pub filled-compiled : (n : Counts) (u : Rule) (before after : List ℕ) (r k : ℕ) {o : Outcome} → Fits large n → WellFormed u → RuleWithin n u → Long u.nodes u.head r → r ≤ item_limit → 4 * r ≤ length before
    → Filled before after u.nodes u.head → k ≡ answers_of u.head → o ≡ compiled_as r k → Compiles large n u before after o
filled-compiled n u before after r k f w i h le fit d a q =
    let e : r ≡ size (query_of u) = exact-length u r w h le in
    let m : 4 * size (query_of u) ≤ length before = subst (λ z. 4 * z ≤ length before) e fit in
    let c : after ≡ flat (query_of u) ++ drop (4 * size (query_of u)) before = d.room ∙ at_front before (flat (query_of u)) (omega (arith, length-flat (query_of u))) ∙ ap (λ z. flat (query_of u) ++ drop z before) (length-flat (query_of u)) in
    rw (q, e, a) (compiled (record { fits = f; form = w; within = i; short = subst (λ z. z ≤ item_limit) e le; enough = m }) c)

-- ---- one result

-- the refusal of a number
refusal_of : ℕ → QueryRefusal
refusal_of k = cond (eqb k 1) Size (cond (eqb k 3) Malformed (cond (eqb k 4) Number (cond (eqb k 5) TooLong Room)))

back : (k : QueryRefusal) → refusal_of (number k) ≡ k
unfolding refusal_of
back Size = refl
back Malformed = refl
back Number = refl
back TooLong = refl
back Room = refl

-- a number is that of one refusal
number-one : (j k : QueryRefusal) → number j ≡ number k → j ≡ k
number-one j k e = sym (back j) ∙ ap refusal_of e ∙ back k

-- any two results that compiling allows are equal, and so are the rooms that it leaves
pub compiles-unique : {W : ℕ} {n : Counts} {u : Rule} {before after₁ after₂ : List ℕ} {r₁ r₂ : Outcome} → Compiles W n u before after₁ r₁ → Compiles W n u before after₂ r₂ → (r₁ ≡ r₂) × (after₁ ≡ after₂)
compiles-unique (refused {k = j} a e) (refused {k = k} b f) = (ap Err (number-one j k (lowest-unique a b)), e ∙ sym f)
compiles-unique (refused a e) (compiled b f) = absurd (compilable-none b _ a.applies)
compiles-unique (compiled a e) (refused b f) = absurd (compilable-none a _ b.applies)
compiles-unique (compiled a e) (compiled b f) = (refl, e ∙ sym f)
