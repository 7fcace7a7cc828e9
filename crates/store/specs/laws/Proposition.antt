-- That words are a closed store is one fact: it has one proof at most. Assumes nothing.
use Rattle.std.specs.Prelude.{◌≡◌, List, ℕ}
use Rattle.std.proofs.Common.{sym, ap, ◌∙◌}
use Rattle.std.proofs.Props.{props}
use mathlib.Core.HLevel.{Σ_prop_path}
use Rattle.store.specs.declared.Counts.{Counts}
use Rattle.store.specs.Cell.{Cell, Within}
use Rattle.store.specs.Cell.Cell.{Same, Under, RoleUnder, In, Link}
use Rattle.store.specs.Layout.{Fits, Holds, Cellular, ClosedStore, word_of, bit_of}
use Rattle.store.specs.laws.Cells.{place-unique}

-- a cell lies within the counts in one way
within-prop : (n : Counts) (c : Cell) → IsProp (Within n c)
within-prop n (Same a b) = hlevel props
within-prop n (Under a b) = hlevel props
within-prop n (RoleUnder r u s) = hlevel props
within-prop n (In a b) = hlevel props
within-prop n (Link r a b) = hlevel props

-- a cell holds in one way
holds-prop : (W : ℕ) (n : Counts) (s : List ℕ) (c : Cell) → IsProp (Holds W n s c)
holds-prop W n s c = hlevel (props, within-prop)

-- a bit is that of one cell
cellular-prop : {W : ℕ} {n : Counts} → Fits W n → (i k : ℕ) → IsProp (Cellular W n i k)
cellular-prop {W} {n} f i k x y =
    let P : Cell → Type 0 = λ c. Within n c × (i ≡ word_of W c) × (k ≡ bit_of c) in
    let at : x.cell ≡ y.cell = place-unique f x.within y.within (sym x.word ∙ y.word) (sym x.bit ∙ y.bit) in
    let parts : (c : Cell) → IsProp (P c) = hlevel (props, within-prop) in
    let made : (c : Cell) × P c → Cellular W n i k = λ p. record { cell = p.0; within = p.1.0; word = p.1.1; bit = p.1.2 } in
    let one : (c : Cell) × P c = (x.cell, (x.within, x.word, x.bit)) in
    let other : (c : Cell) × P c = (y.cell, (y.within, y.word, y.bit)) in
    let same : one ≡ other = Σ_prop_path parts at in
    ap made same

-- words are a closed store in one way
pub closed-prop : (W : ℕ) (n : Counts) (s : List ℕ) → IsProp (ClosedStore W n s)
closed-prop W n s = hlevel (props, holds-prop, within-prop, cellular-prop)
