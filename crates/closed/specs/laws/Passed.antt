-- Words that pass the test are a closed store. Assumes nothing.
use Rattle.std.specs.Prelude.{◌≡◌, Bool, true, false, List, ℕ, ◌+◌, ◌*◌, ◌/◌, ◌%◌, ◌<◌, get_or, length}
use Rattle.std.proofs.Common.{sym, subst, arith}
use Rattle.row.specs.Bit.{Has, Words}
use Rattle.row.specs.laws.Bit.{at-bit, at_place}
use Rattle.row.specs.laws.Rows.{row_lt}
use Rattle.store.specs.declared.Counts.{Counts}
use Rattle.store.specs.Cell.{Obeys, turn, DeclaredItem}
use Rattle.store.specs.Cell.Cell.{Same, Under, RoleUnder, In, Link}
use Rattle.store.specs.Layout.{Fits, Holds, ClosedStore, item_limit, role_at, side, size}
use Rattle.store.specs.own.Laid.{layout_of}
use Rattle.closed.specs.own.Closed.{Clean, ConceptRules, ItemRules, LinkRules, RoleRules, SameRules}
use Rattle.store.specs.laws.Parts.{link-place, parts-clean}
use Rattle.store.specs.laws.Halves.{has-turned, turned-has}
use Rattle.store.specs.laws.Turn.{turn-false}
use Rattle.closed.specs.laws.Clean.{clean-parts, role-small}
use Rattle.closed.specs.laws.Pairs.{along, narrow, pair-gets, pair-has, widen}

module _ {W : ℕ} {n : Counts} {s : List ℕ} (f : Fits W n) where
  -- ---- same
  same_self : SameRules (layout_of W) n s → {a : ℕ} → DeclaredItem n a → Holds W n s (Same a a)
  same_self d {a} l = record { within = (l, l); bit = at_place s (omega arith) (d.reflexive a l) }

  same-spread : SameRules (layout_of W) n s → {a b c : ℕ} → Holds W n s (Same a b) → Holds W n s (Same a c) → Holds W n s (Same b c)
  same-spread d {a} {b} {c} x y = record {
    within = (x.within.1, y.within.1);
    bit = at_place s (omega arith)
        (d.spread a x.within.0 b x.within.1 (at_place s (omega arith) x.bit) 0 (omega arith) (c / 64) (omega (arith, f.items, y.within.1)) (c % 64)
        (at_place s (omega arith) y.bit));
  }

  same_turn : SameRules (layout_of W) n s → {a b : ℕ} → Holds W n s (Same a b) → Holds W n s (Same b a)
  same_turn d x = same-spread d x (same_self d x.within.0)

  -- ---- concepts
  under-self : ConceptRules (layout_of W) n s → {a : ℕ} → a < n.concepts → Holds W n s (Under a a)
  under-self d {a} l = record { within = (l, l); bit = narrow s a (omega (arith, f.concepts)) (omega arith) (d.reflexive a l) }

  under_up : ConceptRules (layout_of W) n s → {a b c : ℕ} → Holds W n s (Under a b) → Holds W n s (Under b c) → Holds W n s (Under a c)
  under_up d {a} {b} {c} x y = record {
    within = (x.within.0, y.within.1);
    bit = at_place s (omega arith)
        (d.include a x.within.0 b x.within.1 (widen s b (omega (arith, f.concepts, x.within.1)) (omega arith) x.bit) 0 (omega arith) c (at_place s (omega arith) y.bit));
  }

  -- ---- items in concepts
  in-up : ItemRules (layout_of W) n s → {a b c : ℕ} → Holds W n s (In a b) → Holds W n s (Under b c) → Holds W n s (In a c)
  in-up d {a} {b} {c} x y = record {
    within = (x.within.0, y.within.1);
    bit = at_place s (omega arith)
        (d.include a x.within.0 b x.within.1 (widen s b (omega (arith, f.concepts, x.within.1)) (omega arith) x.bit) 0 (omega arith) c (at_place s (omega arith) y.bit));
  }

  in-along : ItemRules (layout_of W) n s → {a b c : ℕ} → Holds W n s (Same a b) → Holds W n s (In a c) → Holds W n s (In b c)
  in-along d {a} {b} {c} x y = record {
    within = (x.within.1, y.within.1);
    bit = at_place s (omega arith)
        (d.spread a x.within.0 b x.within.1 (at_place s (omega arith) x.bit) 0 (omega arith) 0 (omega arith) c (at_place s (omega arith) y.bit));
  }

  -- ---- roles
  role-self : RoleRules (layout_of W) n s → {r : ℕ} → r < n.roles → Holds W n s (RoleUnder r false r)
  role-self d {r} l = record { within = (l, l); bit = at-bit {j = r} (omega arith) (narrow s r (omega (arith, f.roles)) (omega arith) (d.reflexive r l)) }

  role-up : Words 64 s → Clean (layout_of W) n s → RoleRules (layout_of W) n s → {r p t : ℕ} {u v : Bool} → Holds W n s (RoleUnder r u p) → Holds W n s (RoleUnder p v t) → Holds W n s (RoleUnder r (turn u v) t)
  role-up ws k d {r} {p} {t} {u} {v} x y =
      let lr : r < n.roles = x.within.0 in
      let lp : p < n.roles = x.within.1 in
      let lt : t < n.roles = y.within.1 in
      let w = role-small f ws k r (omega (arith, f.roles)) in
      let b : Has (get_or s (role_at W + r) 0) (side (turn u false) + p) = subst (λ (z : Bool). Has (get_or s (role_at W + r) 0) (side z + p)) (sym (turn-false u)) x.bit in
      let q = d.steps r lr u p lp (at-bit (omega arith) (turned-has u false _ w (omega (arith, f.roles)) b)) (side v + t) y.bit in
      record { within = (lr, lt); bit = has-turned u v _ w (omega (arith, f.roles)) q }

  -- ---- links
  link_up : LinkRules (layout_of W) n s → (u : Bool) {r p a b : ℕ} → Holds W n s (Link r a b) → Holds W n s (RoleUnder r u p) → Holds W n s (along u p a b)
  link_up d u {r} {p} {a} {b} x y =
      pair-has s f u p a b y.within.1 x.within.1 x.within.2
      (d.pairs a x.within.1 b x.within.2 r x.within.0 (at-bit (omega arith) (pair-gets s f false r a b x)) (side u + p) y.bit)

  link-rows : LinkRules (layout_of W) n s → {r a c b : ℕ} → Holds W n s (Same a c) → Holds W n s (Link r a b) → Holds W n s (Link r c b)
  link-rows d {r} {a} {c} {b} x y = record {
    within = (y.within.0, x.within.1, y.within.2);
    bit = at_place s (omega (arith, link-place W r c (b / 64)))
        (d.rows a x.within.0 c x.within.1 (at_place s (omega arith) x.bit) r y.within.0 (b / 64) (omega (arith, f.items, y.within.2)) (b % 64)
        (at_place s (omega (arith, link-place W r a (b / 64))) y.bit));
  }

  link-columns : LinkRules (layout_of W) n s → {r a b c : ℕ} → Holds W n s (Same b c) → Holds W n s (Link r a b) → Holds W n s (Link r a c)
  link-columns d {r} {a} {b} {c} x y = record {
    within = (y.within.0, y.within.1, x.within.1);
    bit = at_place s (omega arith)
        (d.columns (r * item_limit W + a) (row_lt (item_limit W) n.roles r a y.within.0 (omega (arith, f.items, y.within.1))) b x.within.0
        (at_place s (omega arith) y.bit) (c / 64) (omega (arith, f.items, x.within.1)) (c % 64) (at_place s (omega arith) x.bit));
  }

  rules-obey : Words 64 s → Clean (layout_of W) n s → SameRules (layout_of W) n s → ConceptRules (layout_of W) n s → RoleRules (layout_of W) n s → ItemRules (layout_of W) n s
      → LinkRules (layout_of W) n s → Obeys n (Holds W n s)
  rules-obey ws k same concepts roles items links = record {
    same_refl = same_self same;
    same-sym = same_turn same;
    same-trans = λ x y. same-spread same (same_turn same x) y;
    under-refl = under-self concepts;
    under-trans = under_up concepts;
    role-refl = role-self roles;
    role-trans = role-up ws k roles;
    in-under = in-up items;
    in-same = in-along items;
    link-under = λ x y. link_up links false x y;
    link-inverse = λ x y. link_up links true x y;
    link-same = λ x y z. link-columns links y (link-rows links x z);
  }

  -- clean words that pass the five tests are a closed store
  pub rules-store : length s ≡ size W → Words 64 s → Clean (layout_of W) n s → SameRules (layout_of W) n s → ConceptRules (layout_of W) n s → RoleRules (layout_of W) n s
      → ItemRules (layout_of W) n s → LinkRules (layout_of W) n s → ClosedStore W n s
  rules-store long ws k same concepts roles items links = record {
    fits = f;
    long = long;
    clean = parts-clean f (λ c x. x) (clean-parts k) long ws;
    closed = record { within = λ x. x.within; obeys = rules-obey ws k same concepts roles items links };
  }
