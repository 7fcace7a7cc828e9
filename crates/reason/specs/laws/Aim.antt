-- Facts and goals: from what a table and a search promise to minimal parts. Assumes nothing.
use Rattle.std.specs.Prelude.{◌≡◌, refl, ◌⊎◌, Bool, true, false, cond, Option, Some, None, IfSome, IsSomeAnd, List, ℕ, ◌+◌, ◌≤◌, ◌<◌, length, get_or}
use Rattle.std.proofs.Common.{sym, subst, inl, inr, arith}
use Rattle.std.proofs.lemmas.Bool.{false≢true}
use Rattle.std.proofs.Math.Decide.{dec_lt}
use Rattle.logic.specs.own.Decides.{Decides}
use Rattle.logic.specs.laws.Decides.{decides-both, decides-iff, decides-no}
use Rattle.store.specs.declared.Counts.{Counts}
use Rattle.store.specs.Cell.{Cell, Within}
use Rattle.store.specs.Cell.Cell.{Same, Under, RoleUnder, In, Link}
use Rattle.store.specs.Layout.{Fits, item_limit}
use Rattle.reason.specs.declared.Fact.{Fact}
use Rattle.reason.specs.declared.Fact.TheVariants as fact
use Rattle.reason.specs.declared.Kind.{Kind}
use Rattle.reason.specs.declared.Kind.TheVariants as kind
use Rattle.reason.specs.declared.Route.{Route}
use Rattle.reason.specs.declared.Way.{Way}
use Rattle.reason.specs.own.Aim.{Above, Aimed, Beside, Bounded, Fresh, Inside, Near, Raised, Rising, Sighted, Small, Starts, Tables, above_by, above_goal, fact_at, meetsb, opensb, places_of, row_of, same_by, same_goal}
use Rattle.reason.specs.own.Code.{AllWithin, Coded, cell_at}
use Rattle.reason.specs.own.Code.Coded.{coded}
use Rattle.reason.specs.own.Fact.{Along, Meets, above_width, fact_of, kind_above, places_above, straight, turned}
use Rattle.reason.specs.own.Fact.Meets.{by_straight, by_turned}
use Rattle.reason.specs.own.Picked.{picked}
use Rattle.reason.specs.own.Promise.{Lent}
use Rattle.reason.specs.own.Seek.{GoalBelow, Narrowest, OpenBelow, StepsBelow, Tabled, Wanted, WayBelow, leadsb}
use Rattle.reason.specs.own.Steps.{alongb}
use Rattle.reason.specs.own.Walk.{CellStep, Leads, Reached, Walk}
use Rattle.reason.specs.own.Walk.Reached.{by_one, by_other}
use Rattle.reason.specs.own.Walk.CellStep.{same, same_back, under, role, role-turned}
use Rattle.reason.specs.laws.Flag.{decided, decides-either}
use Rattle.reason.specs.laws.Place.{at_one, minimal_iff, one_at}

-- ---- numbers below the limits

step-below : {W : ℕ} {n : Counts} {k : Kind} {c : Cell} {x y : ℕ} → Fits W n → Within n c → CellStep k c x y → (x < places_of n k) × (y < places_of n k)
step-below f h same = h
step-below f h same_back = (h.1, h.0)
step-below f h under = (omega (arith, f.concepts, h.0), omega (arith, f.concepts, h.1))
step-below f h (role {u = false}) = (omega (arith, f.roles, h.0), omega (arith, f.roles, h.1))
step-below f h (role {u = true}) = (omega (arith, f.roles, h.0), omega (arith, f.roles, h.1))
step-below f h (role-turned {u = false}) = (omega (arith, f.roles, h.0), omega (arith, f.roles, h.1))
step-below f h (role-turned {u = true}) = (omega (arith, f.roles, h.0), omega (arith, f.roles, h.1))

pub steps-below : {W : ℕ} {n : Counts} {codes : List ℕ} (k : Kind) → Fits W n → AllWithin n codes → StepsBelow k (places_of n k) codes
steps-below k f w c o x y s = step-below f (w c o) s

pub places-fit : {W : ℕ} (n : Counts) (k : Kind) → Fits W n → places_of n k ≤ item_limit (row_of W k)
places-fit n kind.Same f = f.items
places-fit n kind.Under f = omega arith
places-fit n kind.Role f = omega arith

places-above : (n : Counts) (g : Fact) → places_of n (kind_above g) ≡ places_above
places-above n (fact.Member a b) = refl
places-above n (fact.Link r a b) = refl

-- the fact of a cell within the counts, if it states one
pub fact-bounded : {W : ℕ} {n : Counts} (c : Cell) → Fits W n → Within n c → IfSome (fact_of c) (Bounded n)
fact-bounded (Same a b) f h = tt
fact-bounded (Under a b) f h = tt
fact-bounded (RoleUnder r u s) f h = tt
fact-bounded (In a b) f h = record { above = omega (arith, f.concepts, h.1); first = h.0; second = h.0 }
fact-bounded (Link r a b) f h = record { above = omega (arith, f.roles, h.0); first = h.1; second = h.2 }

straight-within : {n : Counts} (f : Option Fact) (g : Fact) → IfSome f (Bounded n) → Bounded n g → IfSome (straight f g) (Inside n)
straight-within None g b d = tt
straight-within (Some (fact.Member a c)) (fact.Member e h) b d = record { from = omega (arith, b.above); to = omega (arith, d.above); ends = (b.first, d.first, b.second, d.second) }
straight-within (Some (fact.Member a c)) (fact.Link s e h) b d = tt
straight-within (Some (fact.Link r a c)) (fact.Member e h) b d = tt
straight-within (Some (fact.Link r a c)) (fact.Link s e h) b d = record { from = omega (arith, b.above); to = omega (arith, d.above); ends = (b.first, d.first, b.second, d.second) }

turned-within : {n : Counts} (f : Option Fact) (g : Fact) → IfSome f (Bounded n) → Bounded n g → IfSome (turned f g) (Inside n)
turned-within None g b d = tt
turned-within (Some (fact.Member a c)) g b d = tt
turned-within (Some (fact.Link r a c)) (fact.Member e h) b d = tt
turned-within (Some (fact.Link r a c)) (fact.Link s e h) b d = record { from = omega (arith, b.above); to = omega (arith, d.above); ends = (b.first, d.second, b.second, d.first) }

bounded-small : {W : ℕ} {n : Counts} {f : Fact} → Fits W n → Bounded n f → Small W f
bounded-small h b = record { above = b.above; first = omega (arith, h.items, b.first); second = omega (arith, h.items, b.second) }

-- what may be a fact too
bounded-any : {W : ℕ} {n : Counts} (f : Option Fact) → Fits W n → IfSome f (Bounded n) → IfSome f (Small W)
bounded-any None h b = tt
bounded-any (Some f) h b = bounded-small h b

pub straight-near : {W : ℕ} (f : Option Fact) (g : Fact) → IfSome f (Small W) → Small W g → IfSome (straight f g) (Near W)
straight-near None g b d = tt
straight-near (Some (fact.Member a c)) (fact.Member e h) b d = record { rising = record { from = omega (arith, b.above); to = omega (arith, d.above) }; ends = (b.first, d.first, b.second, d.second) }
straight-near (Some (fact.Member a c)) (fact.Link s e h) b d = tt
straight-near (Some (fact.Link r a c)) (fact.Member e h) b d = tt
straight-near (Some (fact.Link r a c)) (fact.Link s e h) b d = record { rising = record { from = omega (arith, b.above); to = omega (arith, d.above) }; ends = (b.first, d.first, b.second, d.second) }

pub turned-near : {W : ℕ} (f : Option Fact) (g : Fact) → IfSome f (Small W) → Small W g → IfSome (turned f g) (Near W)
turned-near None g b d = tt
turned-near (Some (fact.Member a c)) g b d = tt
turned-near (Some (fact.Link r a c)) (fact.Member e h) b d = tt
turned-near (Some (fact.Link r a c)) (fact.Link s e h) b d = record { rising = record { from = omega (arith, b.above); to = omega (arith, d.above) }; ends = (b.first, d.second, b.second, d.first) }

pub straight-rising : (f : Option Fact) (g : Fact) → IfSome f Raised → Raised g → IfSome (straight f g) Rising
straight-rising None g b d = tt
straight-rising (Some (fact.Member a c)) (fact.Member e h) b d = record { from = omega (arith, b); to = omega (arith, d) }
straight-rising (Some (fact.Member a c)) (fact.Link s e h) b d = tt
straight-rising (Some (fact.Link r a c)) (fact.Member e h) b d = tt
straight-rising (Some (fact.Link r a c)) (fact.Link s e h) b d = record { from = omega (arith, b); to = omega (arith, d) }

pub turned-rising : (f : Option Fact) (g : Fact) → IfSome f Raised → Raised g → IfSome (turned f g) Rising
turned-rising None g b d = tt
turned-rising (Some (fact.Member a c)) g b d = tt
turned-rising (Some (fact.Link r a c)) (fact.Member e h) b d = tt
turned-rising (Some (fact.Link r a c)) (fact.Link s e h) b d = record { from = omega (arith, b); to = omega (arith, d) }

-- what is above it, if it is a fact
pub small-raised : (W : ℕ) (f : Option Fact) → IfSome f (Small W) → IfSome f Raised
small-raised W None b = tt
small-raised W (Some f) b = b.above

-- ---- ways and routes

-- a value that is there if a test holds
cond-is : {A : Type 0} (P : A → Type 0) (x : A) (b : Bool) → b ≡ true → P x → IsSomeAnd (cond b (Some x) None) P
cond-is P x true e p = p
cond-is P x false e p = absurd (false≢true e)

is-cond : {A : Type 0} (P : A → Type 0) (x : A) (b : Bool) → IsSomeAnd (cond b (Some x) None) P → (b ≡ true) × P x
is-cond P x true p = (refl, p)
is-cond P x false p = absurd p

if-cond : {A : Type 0} (P : A → Type 0) (x : A) (b : Bool) → P x → IfSome (cond b (Some x) None) P
if-cond P x true p = p
if-cond P x false p = tt

-- the way from what is above to what is above
abbrev up_way : Route → Way
up_way r = record { a = r.from; b = r.to; c = r.from; d = r.to }

-- whether steps lead along a way
along-decides : {W nodes : ℕ} {k : Kind} {codes t : List ℕ} (w : Way) → WayBelow nodes w → Tabled W t k nodes codes → Decides (alongb W t w) (Walk (Coded codes) k w.a w.b × Walk (Coded codes) k w.c w.d)
along-decides w b h = decides-both (h.leads w.a w.b b.0 b.1) (h.leads w.c w.d b.2 b.3) refl

module _ {W : ℕ} (n : Counts) {codes t : List ℕ} (U : Cell → Type 0) (k : Kind) (h : Tabled W t kind.Same n.items codes) where
  above-leads : (r : Option Route) → IfSome r (Inside n) → IsSomeAnd r (Along (Coded codes) U k) → IsSomeAnd (above_by W t r) (Leads U k)
  above-leads None w l = l
  above-leads (Some r) w l = cond-is (Leads U k) (up_way r) (alongb W t r.ends) (decided (along-decides r.ends w.ends h) (l.first, l.second)) (record { first = l.above; second = l.above })

  leads-above : (r : Option Route) → IfSome r (Inside n) → IsSomeAnd (above_by W t r) (Leads U k) → IsSomeAnd r (Along (Coded codes) U k)
  leads-above None w l = l
  leads-above (Some r) w l =
      let z = is-cond (Leads U k) (up_way r) (alongb W t r.ends) l in
      let e = (along-decides r.ends w.ends h).holds z.0 in
      record { above = z.1.first; first = e.0; second = e.1 }

module _ (n : Counts) {codes t : List ℕ} (S : Cell → Type 0) {k : Kind} (h : Tabled above_width t k places_above codes) where
  same-leads : (r : Option Route) → IfSome r (Inside n) → IsSomeAnd r (Along S (Coded codes) k) → IsSomeAnd (same_by t r) (Leads S kind.Same)
  same-leads None w l = l
  same-leads (Some r) w l = cond-is (Leads S kind.Same) r.ends (leadsb above_width t r.from r.to) (decided (h.leads r.from r.to w.from w.to) l.above) (record { first = l.first; second = l.second })

  leads-same : (r : Option Route) → IfSome r (Inside n) → IsSomeAnd (same_by t r) (Leads S kind.Same) → IsSomeAnd r (Along S (Coded codes) k)
  leads-same None w l = l
  leads-same (Some r) w l =
      let z = is-cond (Leads S kind.Same) r.ends (leadsb above_width t r.from r.to) l in
      record { above = (h.leads r.from r.to w.from w.to).holds z.0; first = z.1.first; second = z.1.second }

-- whether steps lead along a route
opens-decides : {W : ℕ} (n : Counts) {g : Fact} {codes t u : List ℕ} (r : Option Route) → IfSome r (Inside n) → Tables W n g codes t u
    → Decides (opensb W t u r) (IsSomeAnd r (Along (Coded codes) (Coded codes) (kind_above g)))
opens-decides n None w h = decides-no (λ l. l)
opens-decides n (Some r) w h =
    decides-iff (λ l. record { above = l.1; first = l.0.0; second = l.0.1 }) (λ l. ((l.first, l.second), l.above))
    (decides-both (along-decides r.ends w.ends h.of-same) (h.of-above.leads r.from r.to w.from w.to) refl)

meets-decides : {W : ℕ} {n : Counts} (f : Option Fact) {g : Fact} {codes t u : List ℕ} → IfSome f (Bounded n) → Bounded n g → Tables W n g codes t u → Decides (meetsb W t u f g) (Meets (Coded codes) (Coded codes) f g)
meets-decides {n = n} f {g} {codes} b d h = decides-iff ways back (decides-either (opens-decides n (straight f g) (straight-within f g b d) h) (opens-decides n (turned f g) (turned-within f g b d) h))
  where
    ways : IsSomeAnd (straight f g) (Along (Coded codes) (Coded codes) (kind_above g)) ⊎ IsSomeAnd (turned f g) (Along (Coded codes) (Coded codes) (kind_above g)) → Meets (Coded codes) (Coded codes) f g
    ways (inl l) = by_straight l
    ways (inr l) = by_turned l

    back : Meets (Coded codes) (Coded codes) f g → IsSomeAnd (straight f g) (Along (Coded codes) (Coded codes) (kind_above g)) ⊎ IsSomeAnd (turned f g) (Along (Coded codes) (Coded codes) (kind_above g))
    back (by_straight l) = inl l
    back (by_turned l) = inr l

-- ---- goals

module _ {n : Counts} (f : Option Fact) {g : Fact} (b : IfSome f (Bounded n)) (d : Bounded n g) where
  -- the steps above
  module _ {W : ℕ} {codes t : List ℕ} (h : Tabled W t kind.Same n.items codes) where
    above-reached : {U : Cell → Type 0} → Meets (Coded codes) U f g → Reached U (kind_above g) (above_goal W t f g)
    above-reached {U} (by_straight l) = by_one (above-leads n U (kind_above g) h (straight f g) (straight-within f g b d) l)
    above-reached {U} (by_turned l) = by_other (above-leads n U (kind_above g) h (turned f g) (turned-within f g b d) l)

    reached-above : {U : Cell → Type 0} → Reached U (kind_above g) (above_goal W t f g) → Meets (Coded codes) U f g
    reached-above {U} (by_one l) = by_straight (leads-above n U (kind_above g) h (straight f g) (straight-within f g b d) l)
    reached-above {U} (by_other l) = by_turned (leads-above n U (kind_above g) h (turned f g) (turned-within f g b d) l)

    above-below : GoalBelow places_above (above_goal W t f g)
    above-below = record { one = route-above (straight f g) (straight-within f g b d); other = route-above (turned f g) (turned-within f g b d) }
      where
        route-above : (r : Option Route) → IfSome r (Inside n) → OpenBelow places_above (above_by W t r)
        route-above None w = tt
        route-above (Some r) w = if-cond (WayBelow places_above) (up_way r) (alongb W t r.ends) (w.from, w.to, w.from, w.to)

  -- the steps of "same"
  module _ {codes t : List ℕ} (h : Tabled above_width t (kind_above g) places_above codes) where
    same-reached : {S : Cell → Type 0} → Meets S (Coded codes) f g → Reached S kind.Same (same_goal t f g)
    same-reached {S} (by_straight l) = by_one (same-leads n S h (straight f g) (straight-within f g b d) l)
    same-reached {S} (by_turned l) = by_other (same-leads n S h (turned f g) (turned-within f g b d) l)

    reached-same : {S : Cell → Type 0} → Reached S kind.Same (same_goal t f g) → Meets S (Coded codes) f g
    reached-same {S} (by_one l) = by_straight (leads-same n S h (straight f g) (straight-within f g b d) l)
    reached-same {S} (by_other l) = by_turned (leads-same n S h (turned f g) (turned-within f g b d) l)

    same-below : GoalBelow n.items (same_goal t f g)
    same-below = record { one = route-same (straight f g) (straight-within f g b d); other = route-same (turned f g) (turned-within f g b d) }
      where
        route-same : (r : Option Route) → IfSome r (Inside n) → OpenBelow n.items (same_by t r)
        route-same None w = tt
        route-same (Some r) w = if-cond (WayBelow n.items) r.ends (leadsb above_width t r.from r.to) w.ends

-- ---- the searches

module _ {W : ℕ} {n : Counts} {g : Fact} {codes : List ℕ} (w : Aimed W n g codes) where
  -- each number states a fact below the limits
  bounded_at : (i : ℕ) → i < length codes → IfSome (fact_at codes i) (Bounded n)
  bounded_at i h = fact-bounded (cell_at (get_or codes i 0)) w.fits (w.within (get_or codes i 0) (one_at codes i 0 h))

  -- from one of them steps lead to the fact
  meets-somewhere : ((i : ℕ) → i < length codes → ¬ (Meets (Coded codes) (Coded codes) (fact_at codes i) g)) → ⊥
  meets-somewhere f = by w.found.cell w.found.has w.found.meets
    where
      by : (c : Cell) → Coded codes c → Meets (Coded codes) (Coded codes) (fact_of c) g → ⊥
      by c (coded {k = x} o) m = let z = at_one 0 o in f z.0 z.1 (subst (λ (y : ℕ). Meets (Coded codes) (Coded codes) (fact_of (cell_at y)) g) (sym z.2) m)

  pub steps-above : StepsBelow (kind_above g) places_above codes
  steps-above = subst (λ (z : ℕ). StepsBelow (kind_above g) z codes) (places-above n g) (steps-below (kind_above g) w.fits w.within)

  pub small_at : (i : ℕ) → i < length codes → IfSome (fact_at codes i) (Small W)
  small_at i h = bounded-any (fact_at codes i) w.fits (bounded_at i h)

  pub small-aim : Small W g
  small-aim = bounded-small w.fits w.bounded

  module _ {i : ℕ} (low : i < length codes) where
    pub above-wanted : {t u marks : List ℕ} → Lent above_width u → Tabled W t kind.Same n.items codes → Meets (Coded codes) (Coded codes) (fact_at codes i) g → Fresh marks
        → Wanted above_width (kind_above g) places_above (above_goal W t (fact_at codes i) g) codes u marks
    above-wanted l h m e =
        let b = bounded_at i low in
        record {
          lent = l;
          fit = omega arith;
          steps = steps-above;
          goal = above-below (fact_at codes i) b w.bounded h;
          few = w.few;
          reached = above-reached (fact_at codes i) b w.bounded h m;
          wide = e.wide;
          clear = e.clear;
        }

    pub above-least : {t marks : List ℕ} → Tabled W t kind.Same n.items codes → Narrowest (kind_above g) (above_goal W t (fact_at codes i) g) codes marks → Above g codes marks i
    above-least h m =
        let b = bounded_at i low in
        record { low = low; wide = m.wide; minimal = minimal_iff (λ xs p r. reached-above (fact_at codes i) b w.bounded h r) (λ xs r. above-reached (fact_at codes i) b w.bounded h r) m.minimal }

    pub same-wanted : {t u up marks : List ℕ} → Lent W u → Tabled above_width t (kind_above g) places_above (picked up codes) → Above g codes up i → Fresh marks
        → Wanted W kind.Same n.items (same_goal t (fact_at codes i) g) codes u marks
    same-wanted l h m e =
        let b = bounded_at i low in
        record {
          lent = l;
          fit = w.fits.items;
          steps = steps-below kind.Same w.fits w.within;
          goal = same-below (fact_at codes i) b w.bounded h;
          few = w.few;
          reached = same-reached (fact_at codes i) b w.bounded h m.minimal.enough;
          wide = e.wide;
          clear = e.clear;
        }

    pub same-least : {t up marks : List ℕ} → Tabled above_width t (kind_above g) places_above (picked up codes) → Narrowest kind.Same (same_goal t (fact_at codes i) g) codes marks → Beside g codes up marks i
    same-least h m =
        let b = bounded_at i low in
        record { wide = m.wide; minimal = minimal_iff (λ xs p r. reached-same (fact_at codes i) b w.bounded h r) (λ xs r. same-reached (fact_at codes i) b w.bounded h r) m.minimal }

-- ---- the first statement from which steps lead to the fact

-- from no statement before the place i steps lead to g
abbrev pub Unmet : Fact → List ℕ → ℕ → Type 0
Unmet g codes i = (j : ℕ) → j < i → ¬ (Meets (Coded codes) (Coded codes) (fact_at codes j) g)

module _ {W : ℕ} {g : Fact} {codes same above : List ℕ} (w : Sighted W g codes same above) where
  module _ (i : ℕ) (low : i < length codes) {f : Option Fact} {b : Bool} (is : f ≡ fact_at codes i) (told : b ≡ meetsb W same above f g) where
    sighted : Decides b (Meets (Coded codes) (Coded codes) (fact_at codes i) g)
    sighted = rw (told, is) (meets-decides (fact_at codes i) (bounded_at w.aimed i low) w.aimed.bounded w.tables)

    pub unmet-more : Unmet g codes i → b ≡ false → Unmet g codes (i + 1)
    unmet-more f e j h m = by (dec_lt j i)
      where
        by : Dec (j < i) → ⊥
        by (yes l) = f j l m
        by (no l) = let q : j ≡ i = omega arith in sighted.fails e (subst (λ (z : ℕ). Meets (Coded codes) (Coded codes) (fact_at codes z) g) q m)

    pub met : b ≡ true → Starts g codes i
    met e = record { low = low; meets = sighted.holds e }

  pub unmet-never : {i : ℕ} → length codes ≤ i → Unmet g codes i → ⊥
  unmet-never h f = meets-somewhere w.aimed (λ j l. f j (omega arith))
