-- From the searches' results to a reason for the cell. Assumes nothing.
use Rattle.std.specs.Prelude.{◌≡◌, Bool, true, false, Option, Some, IfSome, List, ℕ, ◌<◌}
use Rattle.std.proofs.Common.{sym, subst, arith, mul-le-mul, mul-le-mul_left}
use Rattle.store.specs.declared.Counts.{Counts}
use Rattle.store.specs.Cell.{Cell, Within}
use Rattle.store.specs.Cell.Cell.{Same, Under, RoleUnder}
use Rattle.store.specs.Layout.{role_limit}
use Rattle.store.specs.laws.Least.{least, within-obeys}
use Rattle.reason.specs.declared.Fact.{Fact}
use Rattle.reason.specs.declared.Kind.{Kind}
use Rattle.reason.specs.declared.Kind.TheVariants as kind
use Rattle.reason.specs.own.Aim.{Above, Aimed, Beside, Bounded, Joined, Reaches, places_of, plain_goal, row_of}
use Rattle.reason.specs.own.Code.{AllWithin, Coded}
use Rattle.reason.specs.own.Code.Coded.{coded}
use Rattle.reason.specs.own.Fact.{Found, above_width, fact_of, places_above}
use Rattle.reason.specs.Part.{Part}
use Rattle.reason.specs.own.Promise.{FollowsCoded, Lent, Reasoned, Sought}
use Rattle.reason.specs.own.Seek.{Narrowest, Wanted}
use Rattle.reason.specs.own.Walk.{Reached, Walk, node}
use Rattle.reason.specs.own.Walk.Reached.{by_one, by_other}
use Rattle.reason.specs.laws.Aim.{fact-bounded, places-fit, steps-below}
use Rattle.reason.specs.laws.Found.{found-follows, follows-found, follows-says}
use Rattle.reason.specs.laws.Part.{part-one}
use Rattle.reason.specs.laws.Place.{minimal_iff, placed_at}
use Rattle.reason.specs.laws.Walks.{walk_at, walk-role, walk_same, walk-under}
use Rattle.reason.specs.laws.Union.{union-minimal}
use Rattle.row.specs.own.Row.{row_hasb}

-- what the numbers of a list state is within the counts, as far as they are
coded-within : (n : Counts) {xs : List ℕ} → AllWithin n xs → (c : Cell) → Coded xs c → Within n c
coded-within n w c (coded {k = k} o) = w k o

part-within : (n : Counts) {xs all : List ℕ} → Part xs all → AllWithin n all → AllWithin n xs
part-within n p w k o = w k (part-one p o)

-- a cell that follows is within the counts
follows-within : {n : Counts} {xs : List ℕ} {c : Cell} → AllWithin n xs → FollowsCoded n c xs → Within n c
follows-within {n} w f = least (within-obeys n) (coded-within n w) f

role-below : (u : Bool) {t : ℕ} → t < role_limit → node u t < places_above
role-below false h = omega arith
role-below true h = omega arith

-- a table of the steps between items has room for those above, which are fewer
lent-above : {W : ℕ} {t : List ℕ} → 0 < W → Lent W t → Lent above_width t
lent-above {W} h l = record { wide = omega arith; long = omega (arith, mul-le-mul (mul-le-mul_left 64 h) h, l.long) }

-- so it has room for the steps of each kind
lent_by : {W : ℕ} {t : List ℕ} (k : Kind) → 0 < W → Lent W t → Lent (row_of W k) t
lent_by kind.Same h l = l
lent_by kind.Under h l = lent-above h l
lent_by kind.Role h l = lent-above h l

-- a value that an option is
some-is : {A : Type 0} (P : A → Type 0) {x : A} (o : Option A) → o ≡ Some x → IfSome o P → P x
some-is {A} P o e p = subst (λ (z : Option A). IfSome z P) e p

-- ---- cells that steps of one kind lead to

-- the cell c follows exactly if steps of the kind k lead from x to y
pub record Plain (n : Counts) (c : Cell) (k : Kind) (x y : ℕ) : Type 0 where
  pub from-below : x < places_of n k
  pub to_below : y < places_of n k
  pub follows : (xs : List ℕ) → AllWithin n xs → Walk (Coded xs) k x y → FollowsCoded n c xs
  pub walks : (xs : List ℕ) → FollowsCoded n c xs → Walk (Coded xs) k x y

module _ {W : ℕ} {n : Counts} {codes table marks : List ℕ} where
  pub plain-same : {a b : ℕ} → Sought W n (Same a b) codes table marks → Plain n (Same a b) kind.Same a b
  plain-same s =
      let h = follows-within s.within s.follows in
      record { from-below = h.0; to_below = h.1; follows = λ xs w p. walk_same h.0 p; walks = λ xs f. follows-says (Coded xs) f }

  pub plain-under : {a b : ℕ} → Sought W n (Under a b) codes table marks → Plain n (Under a b) kind.Under a b
  plain-under s =
      let h = follows-within s.within s.follows in
      record {
        from-below = omega (arith, h.0, s.fits.concepts);
        to_below = omega (arith, h.1, s.fits.concepts);
        follows = λ xs w p. walk-under h.0 p;
        walks = λ xs f. follows-says (Coded xs) f;
      }

  -- the role above is below the limit
  pub role-low : {r t : ℕ} {u : Bool} → Sought W n (RoleUnder r u t) codes table marks → t < role_limit
  role-low s = let h = follows-within s.within s.follows in omega (arith, h.1, s.fits.roles)

  pub plain-role : {r t y : ℕ} {u : Bool} → y ≡ node u t → Sought W n (RoleUnder r u t) codes table marks → Plain n (RoleUnder r u t) kind.Role r y
  plain-role {r} {t} {y} {u} e s =
      let h = follows-within s.within s.follows in
      let z : node false r ≡ r = omega arith in
      record {
        from-below = omega (arith, h.0, s.fits.roles);
        to_below = rw e (role-below u (role-low s));
        follows = λ xs w p. walk-role s.fits (coded-within n w) u h.0 h.1 (walk_at (sym z) e p);
        walks = λ xs f. walk_at z (sym e) (follows-says (Coded xs) f).0;
      }

  pub plain-wanted : {c : Cell} {k : Kind} {x y : ℕ} → Sought W n c codes table marks → Plain n c k x y → Wanted (row_of W k) k (places_of n k) (plain_goal x y) codes table marks
  plain-wanted {k = k} s p =
      let w = p.walks codes s.follows in
      record {
        lent = lent_by k s.some s.lent;
        fit = places-fit n k s.fits;
        steps = steps-below k s.fits s.within;
        goal = record { one = (p.from-below, p.to_below, p.from-below, p.to_below); other = tt };
        few = s.few;
        reached = by_one (record { first = w; second = w });
        wide = s.wide;
        clear = s.clear;
      }

  pub plain-reasoned : {c : Cell} {k : Kind} {x y : ℕ} {after : List ℕ} → Sought W n c codes table marks → Plain n c k x y → Narrowest k (plain_goal x y) codes after → Reasoned n c codes after
  plain-reasoned {c} {k} {x} {y} s p m = record {
    wide = m.wide;
    minimal = minimal_iff (λ xs q r. p.follows xs (part-within n q s.within) (walk r)) (λ xs f. let w = p.walks xs f in by_one (record { first = w; second = w })) m.minimal;
  }
    where
      walk : {G : Cell → Type 0} → Reached G k (plain_goal x y) → Walk G k x y
      walk (by_one l) = l.first
      walk (by_other l) = absurd l

  -- ---- facts

  pub aimed-of : {c : Cell} {g : Fact} → Sought W n c codes table marks → fact_of c ≡ Some g → Aimed W n g codes
  aimed-of {c} {g} s e =
      record {
        fits = s.fits;
        within = s.within;
        few = s.few;
        bounded = some-is (Bounded n) (fact_of c) e (fact-bounded c s.fits (follows-within s.within s.follows));
        found = some-is (Found (Coded codes)) (fact_of c) e (follows-found c s.follows);
      }

  pub fact-reasoned : {c : Cell} {g : Fact} {after : List ℕ} → Sought W n c codes table marks → fact_of c ≡ Some g → Reaches g codes after → Reasoned n c codes after
  fact-reasoned {c} {g} s e m = record {
    wide = m.wide;
    minimal = minimal_iff (λ xs q f. some-is (λ h. Found (Coded xs) h → FollowsCoded n c xs) (fact_of c) e (found-follows s.fits (coded-within n (part-within n q s.within)) c (follows-within s.within s.follows)) f) (λ xs f. some-is (Found (Coded xs)) (fact_of c) e (follows-found c f)) m.minimal;
  }

-- the three parts of a reason for a fact, together
pub joined-reaches : {W : ℕ} {n : Counts} {g : Fact} {codes up along after : List ℕ} {i : ℕ} → Aimed W n g codes → Above g codes up i → Beside g codes up along i → Joined up along i after → Reaches g codes after
joined-reaches {codes = codes} {up = up} {along = along} {after = after} {i = i} w a b j = record {
  wide = j.wide;
  minimal = union-minimal (row_hasb up) (row_hasb along) (row_hasb after) (placed_at codes 0 i i 0 a.low (omega arith)) a.minimal b.minimal j.joins;
}
