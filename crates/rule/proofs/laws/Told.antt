-- Laws of what an expression holds of: it can be told. Assumes nothing.
use Rattle.std.proofs.Math.Logic.Dec
use Rattle.std.specs.Prelude.{Bool, true, false, List, ℕ}
use Rattle.store.specs.declared.Counts.{Counts}
use Rattle.store.specs.Cell.{Cell, Obeys}
use Rattle.store.specs.Cell.Cell.{Same, In, Link}
use Rattle.store.specs.Layout.{ClosedStore, Holds}
use Rattle.store.specs.laws.Cells.{holds?}
use Rattle.rule.specs.declared.RoleUse.{RoleUse}
use Rattle.rule.specs.Expr.{Expr}
use Rattle.rule.specs.Expr.Expr.{name, top, neg, both, many, own, one}
use Rattle.rule.specs.Meaning.{LinkedWay, Linked, HoldsOf}
use Rattle.rule.proofs.laws.Articles.{articles?}

linked-way? : {C : Cell → Type 0} → ((c : Cell) → Dec (C c)) → (v : Bool) (r x y : ℕ) → Dec (LinkedWay C v r x y)
linked-way? C? false r x y = C? (Link r x y)
linked-way? C? true r x y = C? (Link r y x)

-- whether a role, or its inverse, links two items can be told
pub linked? : {C : Cell → Type 0} → ((c : Cell) → Dec (C c)) → (u : RoleUse) (x y : ℕ) → Dec (Linked C u x y)
linked? C? u x y = linked-way? C? u.inverse u.role.0 x y

-- whether an expression holds of an item can be told, where each cell can and the cells obey the rules
pub holds_of? : {C : Cell → Type 0} {n : Counts} → Obeys n C → ((c : Cell) → Dec (C c)) → (e : Expr) (x : ℕ) → Dec (HoldsOf C n e x)
unfolding HoldsOf
holds_of? o C? (name c) x = C? (In x c.0)
holds_of? o C? top x = yes tt
holds_of? o C? (neg e) x = Dec.not (holds_of? o C? e x)
holds_of? o C? (both d e) x = Dec.and (holds_of? o C? d x) (holds_of? o C? e x)
holds_of? o C? (many k u e) x = articles? o C? (λ b. Dec.and (linked? C? u x b) (holds_of? o C? e b)) k
holds_of? o C? (own u) x = linked? C? u x x
holds_of? o C? (one a) x = C? (Same x a.0)

-- the same for a closed store
pub store-holds_of? : {W : ℕ} {n : Counts} {s : List ℕ} → ClosedStore W n s → (e : Expr) (x : ℕ) → Dec (HoldsOf (Holds W n s) n e x)
store-holds_of? {W} {n} {s} k e x = holds_of? k.closed.obeys (holds? W n s) e x
