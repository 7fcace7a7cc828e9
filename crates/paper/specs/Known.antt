-- The IC-interpretation of names, inverse roles and expressions: source 000, section 4.1. I is an interpretation, U a set of them.
use Rattle.std.specs.Prelude.{◌≡◌, Bool, true, false, List, [], ◌∷◌, ℕ, length}
use Rattle.logic.specs.Number.{One, Distinct}
use Rattle.store.specs.declared.Counts.{Counts}
use Rattle.store.specs.Cell.{DeclaredItem}
use Rattle.rule.specs.declared.RoleUse.{RoleUse}
use Rattle.rule.specs.Expr.{Expr}
use Rattle.rule.specs.Expr.Expr.{name, top, neg, both, many, own, one}
use Rattle.paper.specs.Interpretation.{Interpretation}

-- d is in N_I's value: it is the value of a declared item
pub record Named (n : Counts) (I : Interpretation) (d : I.domain) : Type 1 where
  pub name : ℕ
  pub declared : DeclaredItem n name
  pub value : I.item name ≡ d

-- d is in the value of concept b: it is the value of an item that is in b in every interpretation of U
pub record KnownIn (n : Counts) (U : Interpretation → Type 1) (I : Interpretation) (b : ℕ) (d : I.domain) : Type 1 where
  pub item : ℕ
  pub declared : DeclaredItem n item
  pub value : I.item item ≡ d
  pub known : (J : Interpretation) → U J → J.concept b (J.item item)

-- the pair d, e is in the value of role r: they are the values of items that r links in every interpretation of U
pub record KnownLink (n : Counts) (U : Interpretation → Type 1) (I : Interpretation) (r : ℕ) (d e : I.domain) : Type 1 where
  pub from : ℕ
  pub to : ℕ
  pub declared-from : DeclaredItem n from
  pub declared-to : DeclaredItem n to
  pub value-from : I.item from ≡ d
  pub value-to : I.item to ≡ e
  pub known : (J : Interpretation) → U J → J.role r (J.item from) (J.item to)

-- the same of the role, or of its inverse
abbrev pub KnownWay : (n : Counts) (U : Interpretation → Type 1) (I : Interpretation) → Bool → ℕ → I.domain → I.domain → Type 1
KnownWay n U I false r d e = KnownLink n U I r d e
KnownWay n U I true r d e = KnownLink n U I r e d

abbrev pub KnownRole : (n : Counts) (U : Interpretation → Type 1) (I : Interpretation) → RoleUse → I.domain → I.domain → Type 1
KnownRole n U I u d e = KnownWay n U I u.inverse u.role.0 d e

-- two elements of a domain are one
pub record Equal {A : Type 0} (d e : A) : Type 1 where
  pub equal : d ≡ e

-- a set S of elements of the domain has k or more
pub record AtLeast (I : Interpretation) (k : ℕ) (S : I.domain → Type 1) : Type 1 where
  pub elements : List I.domain
  pub count : length elements ≡ k
  pub distinct : Distinct elements
  pub each : (d : I.domain) → One d elements → S d

-- d is in the value of a concept expression. 000 has no top of its own: it stands for not (C and not C), whose value is that of N_I
unfoldable pub KnownOf : (n : Counts) (U : Interpretation → Type 1) (I : Interpretation) → Expr → I.domain → Type 1
KnownOf n U I (name c) d = KnownIn n U I c.0 d
KnownOf n U I top d = Named n I d
KnownOf n U I (neg c) d = Named n I d × ¬ (KnownOf n U I c d)
KnownOf n U I (both c e) d = KnownOf n U I c d × KnownOf n U I e d
KnownOf n U I (many k u c) d = Named n I d × AtLeast I k (λ (e : I.domain). Named n I e × KnownRole n U I u d e × KnownOf n U I c e)
KnownOf n U I (own u) d = Named n I d × KnownRole n U I u d d
KnownOf n U I (one a) d = Equal d (I.item a.0)

-- the pair d, e is in the composition of the roles' values
abbrev pub Composed : (n : Counts) (U : Interpretation → Type 1) (I : Interpretation) → List RoleUse → I.domain → I.domain → Type 1
Composed n U I [] d e = Equal d e
Composed n U I (r ∷ rs) d e = (m : I.domain) × KnownRole n U I r d m × Composed n U I rs m e
