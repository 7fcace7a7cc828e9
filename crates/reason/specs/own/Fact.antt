-- From one item in a concept to another, and from link to link.
use Rattle.std.specs.Prelude.{Option, Some, None, IsSomeAnd, ℕ, ◌+◌}
use Rattle.store.specs.Cell.{Cell}
use Rattle.store.specs.Cell.Cell.{Same, Under, RoleUnder, In, Link}
use Rattle.store.specs.Layout.{concept_limit, role_limit}
use Rattle.reason.specs.declared.Kind.{Kind}
use Rattle.reason.specs.declared.Kind.TheVariants as kind
use Rattle.reason.specs.declared.Fact.{Fact}
use Rattle.reason.specs.declared.Fact.TheVariants as fact
use Rattle.reason.specs.declared.Route.{Route}
use Rattle.reason.specs.own.Walk.{Walk}

-- the item a in the concept b
abbrev pub member : ℕ → ℕ → Fact
member a b = fact.Member (record { 0 = a }) (record { 0 = b })

-- the link of the role r from the item a to b
abbrev pub link : ℕ → ℕ → ℕ → Fact
link r a b = fact.Link (record { 0 = r }) (record { 0 = a }) (record { 0 = b })

-- the fact that a cell states, if it states one
abbrev pub fact_of : Cell → Option Fact
fact_of (Same a b) = None
fact_of (Under a b) = None
fact_of (RoleUnder r u s) = None
fact_of (In a b) = Some (member a b)
fact_of (Link r a b) = Some (link r a b)

-- the concept or the role above a fact
abbrev pub fact_above : Fact → ℕ
fact_above (fact.Member a b) = b.0
fact_above (fact.Link r a b) = r.0

-- the items of a fact, of which an item in a concept has one twice
abbrev pub fact_first : Fact → ℕ
fact_first (fact.Member a b) = a.0
fact_first (fact.Link r a b) = a.0

abbrev pub fact_second : Fact → ℕ
fact_second (fact.Member a b) = a.0
fact_second (fact.Link r a b) = b.0

-- the kind of the steps from what is above one fact to what is above another
abbrev pub kind_above : Fact → Kind
kind_above (fact.Member a b) = kind.Under
kind_above (fact.Link r a b) = kind.Role

-- the places between which the steps above facts lead
abbrev pub places_above : ℕ
places_above = role_limit + concept_limit

-- the words of a row in a table of such steps
abbrev pub above_width : ℕ
above_width = 1

-- the way from one fact to another: above, and between their items
abbrev pub route_of : Fact → Fact → Route
route_of f g = record { from = fact_above f; to = fact_above g; ends = record { a = fact_first f; b = fact_first g; c = fact_second f; d = fact_second g } }

-- the way from one fact to another of the same sort, if they are of one
abbrev pub straight : Option Fact → Fact → Option Route
straight None g = None
straight (Some (fact.Member a c)) (fact.Member b d) = Some (route_of (fact.Member a c) (fact.Member b d))
straight (Some (fact.Member a c)) (fact.Link s b d) = None
straight (Some (fact.Link r a c)) (fact.Member b d) = None
straight (Some (fact.Link r a c)) (fact.Link s b d) = Some (route_of (fact.Link r a c) (fact.Link s b d))

-- the way from one link to another by the inverse of the other's role, if they are links
abbrev pub turned : Option Fact → Fact → Option Route
turned None g = None
turned (Some (fact.Member a c)) g = None
turned (Some (fact.Link r a c)) (fact.Member b d) = None
turned (Some (fact.Link r a c)) (fact.Link s b d) = Some (record { from = r.0; to = role_limit + s.0; ends = record { a = a.0; b = d.0; c = c.0; d = b.0 } })

-- steps lead along the route: "same" by S, above by U
pub record Along (S U : Cell → Type 0) (k : Kind) (r : Route) : Type 0 where
  pub above : Walk U k r.from r.to
  pub first : Walk S kind.Same r.ends.a r.ends.b
  pub second : Walk S kind.Same r.ends.c r.ends.d

-- steps lead from what may be a fact to a fact
pub data Meets (S U : Cell → Type 0) (f : Option Fact) (g : Fact) : Type 0 where
  by_straight : IsSomeAnd (straight f g) (Along S U (kind_above g)) → Meets S U f g
  by_turned : IsSomeAnd (turned f g) (Along S U (kind_above g)) → Meets S U f g

-- a cell is given from which steps lead to the fact g
pub record Found (G : Cell → Type 0) (g : Fact) : Type 0 where
  pub cell : Cell
  pub has : G cell
  pub meets : Meets G G (fact_of cell) g
