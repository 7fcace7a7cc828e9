-- A closed store passes the test, rule by rule. Assumes nothing.
use Rattle.std.specs.Prelude.{◌≡◌, Bool, true, false, List, ℕ, ◌+◌, ◌*◌, ◌/◌, ◌%◌, ◌<◌, get_or}
use Rattle.std.proofs.Common.{sym, ap, subst, arith}
use Rattle.row.specs.Bit.{Has, Words}
use Rattle.row.specs.laws.Bit.{at-bit, at_place, has-lt}
use Rattle.store.specs.declared.Counts.{Counts}
use Rattle.store.specs.Cell.{turn, DeclaredItem}
use Rattle.store.specs.Cell.Cell.{Same, Under, RoleUnder, In, Link}
use Rattle.store.specs.Layout.{Holds, ClosedStore, item_limit, link_at, role_at, side}
use Rattle.store.specs.own.Laid.{layout_of}
use Rattle.closed.specs.own.Closed.{ConceptRules, ItemRules, LinkRules, RoleRules, SameRules, pair_word}
use Rattle.store.specs.own.RoleWord.{turned}
use Rattle.store.specs.laws.Parts.{Step, link-place, part-row, store-parts}
use Rattle.store.specs.laws.Halves.{has-turned, turned-has}
use Rattle.store.specs.laws.Turn.{turn-false}
use Rattle.closed.specs.laws.Clean.{role-small, store-clean}
use Rattle.closed.specs.laws.Pairs.{first_block, narrow, pair-gets, pair-has, widen, word-bit}

module _ {W : ℕ} {n : Counts} {s : List ℕ} (ws : Words 64 s) (m : ClosedStore W n s) where
  -- the rules of what is the same
  pub store_same : SameRules (layout_of W) n s
  store_same = let o = m.closed.obeys in record {
    reflexive = λ x lx. at_place s (omega arith) (o.same_refl lx).bit;
    spread = λ x lx y ly b r lr h lh k z.
        let e = first_block r (item_limit W * W) lr in
        let lk : k < 64 = has-lt 64 (ws _) z in
        let xy : Holds W n s (Same x y) = record { within = (lx, ly); bit = at_place s (omega arith) b } in
        let xz : Holds W n s (Same x (h * 64 + k)) = (store-parts m).same x h k (omega (arith, m.fits.items)) lh lk (at_place s (omega arith) z) in
        word-bit s (y * W) h k lk (omega arith) (o.same-trans (o.same-sym xy) xz).bit;
  }

  -- the rules of concepts
  pub store-concepts : ConceptRules (layout_of W) n s
  store-concepts = let o = m.closed.obeys in let f = m.fits.concepts in record {
    reflexive = λ x lx. widen s x (omega arith) (omega arith) (o.under-refl lx).bit;
    include = λ x lx y ly b h lh k z.
        let xy : Holds W n s (Under x y) = record { within = (lx, ly); bit = narrow s y (omega arith) (omega arith) b } in
        let yz : Holds W n s (Under y k) = (store-parts m).under y k (omega arith) (at_place s (omega arith) z) in
        at_place s (omega arith) (o.under-trans xy yz).bit;
  }

  -- the rules of items in concepts
  pub store-items : ItemRules (layout_of W) n s
  store-items = let o = m.closed.obeys in let f = m.fits.concepts in record {
    include = λ x lx y ly b h lh k z.
        let xy : Holds W n s (In x y) = record { within = (lx, ly); bit = narrow s y (omega arith) (omega arith) b } in
        let yz : Holds W n s (Under y k) = (store-parts m).under y k (omega arith) (at_place s (omega arith) z) in
        at_place s (omega arith) (o.in-under xy yz).bit;
    spread = λ x lx y ly b r lr h lh k z.
        let e = first_block r (item_limit W) lr in
        let xy : Holds W n s (Same x y) = record { within = (lx, ly); bit = at_place s (omega arith) b } in
        let xz : Holds W n s (In x k) = (store-parts m).item x k (omega (arith, m.fits.items)) (at_place s (omega arith) z) in
        at_place s (omega arith) (o.in-same xy xz).bit;
  }

  role-step : (r : ℕ) → r < n.roles → (u : Bool) (y : ℕ) → y < n.roles → Has (turned u (get_or s (role_at W + r) 0)) y → (k : ℕ) → Step (Holds W n s) y k
      → Has (turned u (get_or s (role_at W + r) 0)) k
  role-step r lr u y ly b k z =
      let f = m.fits.roles in
      let w = role-small m.fits ws (store-clean ws m) r (omega arith) in
      let x : Has (get_or s (role_at W + r) 0) (side (turn u false) + y) = has-turned u false _ w (omega arith) (at-bit (omega arith) b) in
      let xy : Holds W n s (RoleUnder r u y) = record { within = (lr, ly); bit = subst (λ (v : Bool). Has (get_or s (role_at W + r) 0) (side v + y)) (turn-false u) x } in
      let over : z.over < n.roles = z.holds.within.1 in
      at-bit (sym z.at) (turned-has u z.sign _ w (omega arith) (m.closed.obeys.role-trans xy z.holds).bit)

  -- the rules of roles
  pub store-roles : RoleRules (layout_of W) n s
  store-roles = let o = m.closed.obeys in let f = m.fits.roles in record {
    reflexive = λ x lx. widen s x (omega arith) (omega arith) (at-bit {k = x} (omega arith) (o.role-refl lx).bit);
    steps = λ r lr u y ly b k z. role-step r lr u y ly b k ((store-parts m).role y k (omega arith) z);
  }

  pair_step : (a b : ℕ) → DeclaredItem n a → DeclaredItem n b → (r k : ℕ) → Holds W n s (Link r a b) → Step (Holds W n s) r k → Has (pair_word (layout_of W) s n.roles a b) k
  pair_step a b la lb r k x z = go z.sign z.over z.at z.holds
    where
      go : (u : Bool) (o : ℕ) → k ≡ side u + o → Holds W n s (RoleUnder r u o) → Has (pair_word (layout_of W) s n.roles a b) k
      go false o e y = at-bit (sym e) (pair-gets s m.fits false o a b (m.closed.obeys.link-under x y))
      go true o e y = at-bit (sym e) (pair-gets s m.fits true o a b (m.closed.obeys.link-inverse x y))

  link_row : (r a : ℕ) → DeclaredItem n a → r < n.roles → (y : ℕ) → DeclaredItem n y → (h k : ℕ) → h < W → k < 64 → Holds W n s (Same a y) → Has (get_or s (link_at W + a * W + r * (item_limit W * W) + h) 0) k
      → Has (get_or s (link_at W + y * W + r * (item_limit W * W) + h) 0) k
  link_row r a la lr y ly h k lh lk e z =
      let o = m.closed.obeys in
      let l = (store-parts m).link r a h k (omega (arith, m.fits.roles)) (omega (arith, m.fits.items)) lh lk (at_place s (omega (arith, link-place W r a h)) z) in
      word-bit s (link_at W + (r * item_limit W + y) * W) h k lk (omega (arith, link-place W r y h)) (at_place s (omega arith) (o.link-same e (o.same_refl l.within.2) l).bit)

  link-column : (r a : ℕ) → r < n.roles → a < item_limit W → (y : ℕ) → DeclaredItem n y → (h k : ℕ) → h < W → k < 64
      → Has (get_or s (link_at W + (r * item_limit W + a) * W + y / 64) 0) (y % 64) → Has (get_or s (y * W + h) 0) k → Has (get_or s (link_at W + (r * item_limit W + a) * W + h) 0) k
  link-column r a lr la y ly h k lh lk b z =
      let o = m.closed.obeys in
      let p = store-parts m in
      let l = p.link r a (y / 64) (y % 64) (omega (arith, m.fits.roles)) la (omega (arith, m.fits.items)) (omega arith) (at_place s (omega arith) b) in
      let q = p.same y h k (omega (arith, m.fits.items)) lh lk z in
      let e : y / 64 * 64 + y % 64 ≡ y = omega arith in
      let l' : Holds W n s (Link r a y) = subst (λ (i : ℕ). Holds W n s (Link r a i)) e l in
      word-bit s (link_at W + (r * item_limit W + a) * W) h k lk (omega arith) (at_place s (omega arith) (o.link-same (o.same_refl l.within.1) q l').bit)

  -- the rules of links
  pub store-links : LinkRules (layout_of W) n s
  store-links = record {
    rows = λ x lx y ly b r lr h lh k z.
        link_row r x lx lr y ly h k lh (has-lt 64 (ws _) z) (record { within = (lx, ly); bit = at_place s (omega arith) b }) z;
    columns = λ x lx y ly b h lh k z.
        let q = part-row n.roles (item_limit W) x lx in
        let e = ap (λ (i : ℕ). i * W) q.4 in
        at_place s (omega arith) (link-column q.0 q.1 q.2 q.3 y ly h k lh (has-lt 64 (ws _) z) (at_place s (omega arith) b) (at_place s (omega arith) z));
    pairs = λ a la b lb r lr x k z.
        pair_step a b la lb r k (pair-has s m.fits false r a b lr la lb (at-bit (omega arith) x)) ((store-parts m).role r k (omega (arith, m.fits.roles)) z);
  }
