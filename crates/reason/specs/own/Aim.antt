-- The search for a reason of a fact, step by step.
use Rattle.std.specs.Prelude.{◌≡◌, ◌⊎◌, Bool, true, false, cond, ◌&&◌, ◌||◌, Option, Some, None, List, ℕ, ◌*◌, ◌≤◌, ◌<◌, length, get_or}
use Rattle.row.specs.own.Row.{row_hasb}
use Rattle.store.specs.declared.Counts.{Counts}
use Rattle.store.specs.Layout.{Fits, concept_limit, item_limit}
use Rattle.reason.specs.declared.Fact.{Fact}
use Rattle.reason.specs.declared.Goal.{Goal}
use Rattle.reason.specs.declared.Kind.{Kind}
use Rattle.reason.specs.declared.Kind.TheVariants as kind
use Rattle.reason.specs.declared.Route.{Route}
use Rattle.reason.specs.declared.Way.{Way}
use Rattle.reason.specs.own.Code.{AllWithin, Coded, cell_at}
use Rattle.reason.specs.own.Fact.{Found, Meets, above_width, fact_above, fact_first, fact_of, fact_second, kind_above, places_above, straight, turned}
use Rattle.reason.specs.Part.{Minimal}
use Rattle.reason.specs.own.Picked.{mark_words, picked}
use Rattle.reason.specs.own.Promise.{Clear}
use Rattle.reason.specs.own.Seek.{Tabled, WayBelow, leadsb}
use Rattle.reason.specs.own.Steps.{alongb}
use Rattle.store.specs.Cell.{DeclaredItem}

-- the places between which steps of a kind lead
abbrev pub places_of : Counts → Kind → ℕ
places_of n kind.Same = n.items
places_of n kind.Under = places_above
places_of n kind.Role = places_above

-- the words of a row in the table of these steps
abbrev pub row_of : ℕ → Kind → ℕ
row_of W kind.Same = W
row_of W kind.Under = above_width
row_of W kind.Role = above_width

-- the goal that steps lead from x to y
abbrev pub plain_goal : ℕ → ℕ → Goal
plain_goal x y = record { one = Some (record { a = x; b = y; c = x; d = y }); other = None }

-- the way above of a route, open if the route is and its steps of "same" are in the table
abbrev pub above_by : ℕ → List ℕ → Option Route → Option Way
above_by W t None = None
above_by W t (Some r) = cond (alongb W t r.ends) (Some (record { a = r.from; b = r.to; c = r.from; d = r.to })) None

-- the way of "same" of a route, open if the route is and its steps above are in the table
abbrev pub same_by : List ℕ → Option Route → Option Way
same_by t None = None
same_by t (Some r) = cond (leadsb above_width t r.from r.to) (Some r.ends) None

-- the steps above that lead from the fact f to g
abbrev pub above_goal : ℕ → List ℕ → Option Fact → Fact → Goal
above_goal W t f g = record { one = above_by W t (straight f g); other = above_by W t (turned f g) }

-- the steps of "same" that lead from the fact f to g
abbrev pub same_goal : List ℕ → Option Fact → Fact → Goal
same_goal t f g = record { one = same_by t (straight f g); other = same_by t (turned f g) }

-- whether steps lead along a route, by the tables of "same" and of the steps above
abbrev pub opensb : ℕ → List ℕ → List ℕ → Option Route → Bool
opensb W t u None = false
opensb W t u (Some r) = alongb W t r.ends && leadsb above_width u r.from r.to

-- whether steps lead from one fact to another, by the tables
abbrev pub meetsb : ℕ → List ℕ → List ℕ → Option Fact → Fact → Bool
meetsb W t u f g = opensb W t u (straight f g) || opensb W t u (turned f g)

-- what is above a fact is below the limit
abbrev pub Raised : Fact → Type 0
Raised f = fact_above f < concept_limit

-- the numbers of a fact are below the limits
pub record Small (W : ℕ) (f : Fact) : Type 0 where
  pub above : Raised f
  pub first : fact_first f < item_limit W
  pub second : fact_second f < item_limit W

-- the ends above of a route are below the limit
pub record Rising (r : Route) : Type 0 where
  pub from : r.from < item_limit above_width
  pub to : r.to < item_limit above_width

-- the numbers of a route are below the limits
pub record Near (W : ℕ) (r : Route) : Type 0 where
  pub rising : Rising r
  pub ends : WayBelow (item_limit W) r.ends

-- the numbers of a fact are below the counts or the limits
pub record Bounded (n : Counts) (f : Fact) : Type 0 where
  pub above : Raised f
  pub first : DeclaredItem n (fact_first f)
  pub second : DeclaredItem n (fact_second f)

-- the numbers of a route are below the counts or the limits
pub record Inside (n : Counts) (r : Route) : Type 0 where
  pub from : r.from < places_above
  pub to : r.to < places_above
  pub ends : WayBelow n.items r.ends

-- the two tables say where steps lead: those of "same" and those above g
pub record Tables (W : ℕ) (n : Counts) (g : Fact) (codes same above : List ℕ) : Type 0 where
  pub of-same : Tabled W same kind.Same n.items codes
  pub of-above : Tabled above_width above (kind_above g) places_above codes

-- a fact that follows from the numbers given, which are within the counts
pub record Aimed (W : ℕ) (n : Counts) (g : Fact) (codes : List ℕ) : Type 0 where
  pub fits : Fits W n
  pub within : AllWithin n codes
  pub few : length codes ≤ 64 * mark_words
  pub bounded : Bounded n g
  pub found : Found (Coded codes) g

-- the fact that the number at a place states, if it states one
abbrev pub fact_at : List ℕ → ℕ → Option Fact
fact_at codes i = fact_of (cell_at (get_or codes i 0))

-- steps lead from the fact at the place i to g
pub record Starts (g : Fact) (codes : List ℕ) (i : ℕ) : Type 0 where
  pub low : i < length codes
  pub meets : Meets (Coded codes) (Coded codes) (fact_at codes i) g

-- the marks are a minimal part of the numbers, by which steps above lead from the fact at the place i to g
pub record Above (g : Fact) (codes marks : List ℕ) (i : ℕ) : Type 0 where
  pub low : i < length codes
  pub wide : length marks ≡ mark_words
  pub minimal : Minimal (λ ls. Meets (Coded codes) (Coded ls) (fact_at codes i) g) codes (picked marks codes)

-- the marks are a minimal part of the numbers, by which steps of "same" lead from the fact at the place i to g, beside the steps above that `up` marks
pub record Beside (g : Fact) (codes up marks : List ℕ) (i : ℕ) : Type 0 where
  pub wide : length marks ≡ mark_words
  pub minimal : Minimal (λ ls. Meets (Coded ls) (Coded (picked up codes)) (fact_at codes i) g) codes (picked marks codes)

-- a fact that follows, and the tables of where steps lead
pub record Sighted (W : ℕ) (g : Fact) (codes same above : List ℕ) : Type 0 where
  pub counts : Counts
  pub aimed : Aimed W counts g codes
  pub tables : Tables W counts g codes same above

-- no mark is set yet
pub record Fresh (marks : List ℕ) : Type 0 where
  pub wide : length marks ≡ mark_words
  pub clear : Clear marks

-- the numbers marked are a minimal part from which steps lead to g
pub record Reaches (g : Fact) (codes marks : List ℕ) : Type 0 where
  pub wide : length marks ≡ mark_words
  pub minimal : Minimal (λ ls. Found (Coded ls) g) codes (picked marks codes)

-- the marks may be joined with others and with n
pub record Joinable (marks more : List ℕ) (n : ℕ) : Type 0 where
  pub wide : length marks ≡ mark_words
  pub more-wide : length more ≡ mark_words
  pub low : n < 64 * mark_words

-- the marks are those above, those of "same" and n
pub record Joins (up along : ℕ → Bool) (n : ℕ) (m : ℕ → Bool) : Type 0 where
  pub left : (j : ℕ) → up j ≡ true → m j ≡ true
  pub right : (j : ℕ) → along j ≡ true → m j ≡ true
  pub this : m n ≡ true
  pub only : (j : ℕ) → m j ≡ true → (up j ≡ true) ⊎ ((along j ≡ true) ⊎ (j ≡ n))

-- the same by the bits of words
pub record Joined (marks more : List ℕ) (n : ℕ) (after : List ℕ) : Type 0 where
  pub wide : length after ≡ mark_words
  pub joins : Joins (row_hasb marks) (row_hasb more) n (row_hasb after)
