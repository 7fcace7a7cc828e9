-- Laws of a rule's form. Assumes nothing.
use Rattle.std.specs.Prelude.{◌≡◌, refl, List, ℕ, ◌+◌}
use Rattle.std.proofs.Common.{add-one}
use Rattle.rule.specs.declared.Slot.{Slot}
use Rattle.rule.specs.Form.{node_at, uses, uses_below}

-- no nodes use nothing, and one more node uses what it uses
pub uses_below-none : (ns : List Slot) (j : ℕ) → uses_below ns j 0 ≡ 0
unfolding uses_below
uses_below-none ns j = refl

pub uses_below-more : (ns : List Slot) (j i : ℕ) → uses_below ns j (i + 1) ≡ uses_below ns j i + uses (node_at ns i) j
unfolding uses_below
uses_below-more ns j i = rw add-one refl
