-- What a query says: its answers, over the cells C of a store and the declared counts n.
use Rattle.std.specs.Prelude.{◌≡◌, ◌⊎◌, List, ℕ, ◌-◌, ◌<◌, length, get_or}
use Rattle.std.proofs.Math.Logic.{ite}
use Rattle.std.proofs.Math.Decide.{dec_lt}
use Rattle.store.specs.declared.Counts.{Counts}
use Rattle.store.specs.Cell.{Cell, DeclaredItem}
use Rattle.store.specs.Cell.Cell.{Same, In, Link}
use Rattle.body.specs.Body.{first_item, Atom, is_a, rel, eq, Body, end, atom, not, reads, whole}

-- an item for each variable
abbrev pub Values : Type 0
Values = ℕ → ℕ

-- the item that the term t stands for
unfoldable pub val : Values → ℕ → ℕ
val σ t = ite (dec_lt t first_item) (σ t) (t - first_item)

-- the terms met so far
abbrev pub Met : Type 1
Met = ℕ → Type 0

-- with those of one more atom
abbrev pub meet : Atom → Met → Met
meet (is_a c s) met = λ v. (v ≡ s) ⊎ met v
meet (rel r s t) met = λ v. (v ≡ s) ⊎ ((v ≡ t) ⊎ met v)
meet (eq s t) met = λ v. (v ≡ s) ⊎ ((v ≡ t) ⊎ met v)

-- with those of more conditions, in the order of the text
abbrev pub meets : Body → Met → Met
meets end met = met
meets (atom a q) met = meets q (meet a met)
meets (not p q) met = meets q (meets p met)

-- the same values for the terms met so far
abbrev pub Agree : Met → Values → Values → Type 0
Agree met σ τ = (v : ℕ) → met v → σ v ≡ τ v

module _ (C : Cell → Type 0) (n : Counts) where
  -- variables range over items
  abbrev pub InRange : Values → Type 0
  InRange σ = (v : ℕ) → DeclaredItem n (σ v)

  abbrev pub HoldsAtom : Values → Atom → Type 0
  HoldsAtom σ (is_a c s) = C (In (val σ s) c)
  HoldsAtom σ (rel r s t) = C (Link r (val σ s) (val σ t))
  HoldsAtom σ (eq s t) = C (Same (val σ s) (val σ t))

  -- All conditions hold at σ. A variable first met inside a not belongs to that not: the not holds if there are no values for such variables,
  -- those met before as in σ, at which all that stands in it holds.
  abbrev pub All : Met → Values → Body → Type 0
  All met σ end = Unit {0}
  All met σ (atom a q) = HoldsAtom σ a × All (meet a met) σ q
  All met σ (not p q) = ¬ ((τ : Values) × InRange τ × Agree met σ τ × All met τ p) × All (meets p met) σ q

  -- The items xs are an answer of the query with these words, whose first k variables are the answer variables. These belong to no not, wherever first met:
  -- they are met from the start. The other variables outside of nots need only exist. Where no item is declared nothing has an answer; a rule without x names declared items.
  pub record Answer (k : ℕ) (ws : List ℕ) (xs : List ℕ) : Type 0 where
    pub body : Body
    pub says : reads ws ≡ whole body
    pub values : Values
    pub range : InRange values
    pub count : length xs ≡ k
    pub answers : (v : ℕ) → v < k → values v ≡ get_or xs v 0
    pub holds : All (λ v. v < k) values body
