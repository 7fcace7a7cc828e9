-- What an expression holds of, over the cells C of a store and the declared counts n.
use Rattle.std.specs.Prelude.{◌≡◌, Bool, true, false, List, [], ◌∷◌, ℕ, length}
use Rattle.logic.specs.Number.{One}
use Rattle.store.specs.declared.Counts.{Counts}
use Rattle.store.specs.Cell.{Cell, DeclaredItem}
use Rattle.store.specs.Cell.Cell.{Same, In, Link}
use Rattle.rule.specs.declared.RoleUse.{RoleUse}
use Rattle.rule.specs.Expr.{Expr}
use Rattle.rule.specs.Expr.Expr.{name, top, neg, both, many, own, one}

-- role r links x to y; its inverse does
abbrev pub LinkedWay : (Cell → Type 0) → Bool → ℕ → ℕ → ℕ → Type 0
LinkedWay C false r x y = C (Link r x y)
LinkedWay C true r x y = C (Link r y x)

abbrev pub Linked : (Cell → Type 0) → RoleUse → ℕ → ℕ → Type 0
Linked C u x y = LinkedWay C u.inverse u.role.0 x y

-- no two of the list are the same article
pub data Different (C : Cell → Type 0) : List ℕ → Type 0 where
  none : Different C []
  more : {x : ℕ} {xs : List ℕ} → ((y : ℕ) → One y xs → ¬ (C (Same x y))) → Different C xs → Different C (x ∷ xs)

-- k or more different articles contain a declared item with the property P
pub record Articles (C : Cell → Type 0) (n : Counts) (k : ℕ) (P : ℕ → Type 0) : Type 0 where
  pub items : List ℕ
  pub count : length items ≡ k
  pub each : (b : ℕ) → One b items → DeclaredItem n b × P b
  pub different : Different C items

-- the expression holds of the item x
unfoldable pub HoldsOf : (Cell → Type 0) → Counts → Expr → ℕ → Type 0
HoldsOf C n (name c) x = C (In x c.0)
HoldsOf C n top x = Unit {0}
HoldsOf C n (neg c) x = ¬ (HoldsOf C n c x)
HoldsOf C n (both c d) x = HoldsOf C n c x × HoldsOf C n d x
HoldsOf C n (many k u c) x = Articles C n k (λ b. Linked C u x b × HoldsOf C n c b)
HoldsOf C n (own u) x = Linked C u x x
HoldsOf C n (one a) x = C (Same x a.0)
