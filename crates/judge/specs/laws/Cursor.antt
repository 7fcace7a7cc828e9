-- Laws of the cursor: where it begins, and that it goes through the findings in order. Assumes nothing.
use Rattle.std.specs.Prelude.{◌≡◌, refl, ◌⊎◌, Bool, true, false, List, [], ◌∷◌, ℕ, ◌+◌, ◌*◌, ◌/◌, ◌%◌, ◌≤◌, ◌<◌, length}
use Rattle.std.proofs.Common.{sym, ap, ◌∙◌, subst, inl, inr, ⊎_elim, arith}
use Rattle.std.proofs.Math.Decide.{ℕ_discrete, dec_lt}
use Rattle.logic.specs.Number.{Number, One}
use Rattle.logic.specs.Number.One.{first, later}
use Rattle.logic.specs.laws.Number.{number-iff, number-map, number-none, number-or, one-cases, one_none}
use Rattle.row.specs.Bit.{Words, total}
use Rattle.row.specs.own.Row.{RowHas}
use Rattle.row.specs.laws.Bit.{at-bit, at_place, has-lt}
use Rattle.row.specs.laws.Count.{SetBit, bits-number, total-le}
use Rattle.row.specs.own.Pick.{Empty, Least, Marks, Next, Without, room}
use Rattle.store.specs.declared.Counts.{Counts}
use Rattle.store.specs.Cell.{Cell, DeclaredItem}
use Rattle.rule.specs.declared.Finding.{Finding}
use Rattle.rule.specs.declared.Head.{Head}
use Rattle.breach.specs.declared.Plan.{Plan}
use Rattle.rule.specs.Second.{Second}
use Rattle.rule.specs.Findings.{Before, SecondBefore, finding_of}
use Rattle.links.specs.own.Reach.{ItemRow}
use Rattle.breach.specs.own.Plan.{BreaksBy, PlaceBreaks, PlaceIf, PlanBreaks, is_pair, place_of, second_at, second_if}
use Rattle.judge.specs.own.Cursor.{Advances, Ahead, Begins, BrokenBelow, Gone, Left, Listed, PlanBroken, Sought, Stands, current_of}
use Rattle.breach.specs.laws.Plan.{breaks-item, breaks-place, breaks-second, place-breaks, place-second, place-unique}
use Rattle.judge.specs.laws.Listed.{finding-parts, listed-iff, order-apart, order-before, order-rest}
use Rattle.judge.specs.declared.Cursor as declared

-- ---- the next finding's row

module _ (C : Cell → Type 0) (n : Counts) (p : Plan) where
  -- no row is passed
  pub gone-none : (from : ℕ) → Gone C n p from from
  gone-none from = record { none = λ z s a b. absurd (omega arith) }

  -- a row with no place below the number of items
  pub gone-more : {from x y : ℕ} {r : List ℕ} → Gone C n p from x → Marks n.items r (PlaceBreaks C n p x) → Least r y → n.items ≤ y → Gone C n p from (x + 1)
  gone-more {from} {x} g m d l = record { none = λ z s a b h. go z s a b h (ℕ_discrete z x) }
    where
      go : (z : ℕ) (s : Second) → from ≤ z → z < x + 1 → PlanBreaks C n p z s → Dec (z ≡ x) → ⊥
      go z s a b h (yes e) =
          let q = breaks-place C n p x s (subst (λ (k : ℕ). PlanBreaks C n p k s) e h) in
          d.least (place_of s) (omega (arith, q.0)) (m.whole (place_of s) q.0 q.1)
      go z s a b h (no e) = g.none z s a (omega arith) h

  -- a row with a place
  pub sought-here : {from x y : ℕ} {r : List ℕ} → n.items ≤ 64 * room → Gone C n p from x → from ≤ x → DeclaredItem n x → Marks n.items r (PlaceBreaks C n p x) → Least r y → DeclaredItem n y
      → Sought C n p from (record { plan = p; row = r; x = x; y = y })
  sought-here w g l lx m d ly = record {
    plan = refl;
    since = l;
    gone = g;
    stands = record { row = λ z h. let q = m.sound z h in (lx, q.0, q.1); here = λ k. d.found (omega arith); least = d.least };
    whole = λ z k lz b. m.whole z lz b;
  }

  -- the end
  pub sought-end : {from x : ℕ} {r : List ℕ} → Gone C n p from x → from ≤ x → n.items ≤ x → Empty r → Sought C n p from (record { plan = p; row = r; x = x; y = 0 })
  sought-end g l lx e = record {
    plan = refl;
    since = l;
    gone = g;
    stands = record { row = λ z h. absurd (e.none z h); here = λ k. absurd (omega arith); least = λ z k. absurd (omega arith) };
    whole = λ z k lz b. absurd (omega arith);
  }

  -- a rule about one item: the next item that breaks it
  pub gone-alone : {from x : ℕ} {r : List ℕ} → is_pair p.head ≡ false → Marks n.items r (BreaksBy C (RowHas p.left) (RowHas p.right) p.head) → Next r from n.items x → Gone C n p from x
  gone-alone e m d = record {
    none = λ z s a b h. d.least z a b (m.whole z (breaks-item C n p z s h) (subst (λ (t : Bool). PlaceIf C n p z t (place_of s)) e (breaks-place C n p z s h).1).1);
  }

  -- its place is 0
  pub sought-alone : {from x : ℕ} {r one : List ℕ} → is_pair p.head ≡ false → Marks n.items r (BreaksBy C (RowHas p.left) (RowHas p.right) p.head) → Next r from n.items x → ¬ (x ≡ n.items)
      → ItemRow 0 one → Sought C n p from (record { plan = p; row = one; x = x; y = 0 })
  sought-alone {from} {x} {r} {one} e m d f o = record {
    plan = refl;
    since = d.from;
    gone = gone-alone e m d;
    stands = record {
      row = λ y h. let z = o.only y h in (inside, omega arith, subst (λ (t : Bool). PlaceIf C n p x t y) (sym e) (z, (m.sound x (d.found inside)).1));
      here = λ l. o.has (omega arith);
      least = λ y l. absurd (omega arith);
    };
    whole = λ y l ly b. let z = (subst (λ (t : Bool). PlaceIf C n p x t y) e b).0 in subst (λ (k : ℕ). RowHas one k) (sym z) (o.has (omega arith));
  }
    where
      inside : DeclaredItem n x
      inside = omega (arith, d.within)

  -- where there is no finding, the end is the first
  pub sought-none : {c : declared.Cursor} → Number (PlanBroken C n p) 0 → Sought C n p n.items c → Sought C n p 0 c
  sought-none a k = record { plan = k.plan; since = omega arith; gone = record { none = λ z s l h b. no_one a.count (a.whole (z, s) b) }; stands = k.stands; whole = k.whole }
    where
      no_one : {q : ℕ × Second} {qs : List (ℕ × Second)} → length qs ≡ 0 → ¬ (One q qs)
      no_one {qs = []} e o = one_none o
      no_one {qs = q' ∷ qs} e o = absurd (omega arith)

-- ---- what is still to come

second-less : (h : Head) (a b : ℕ) → SecondBefore (second_at h a) (second_at h b) → a < b
second-less h a b = go (is_pair h)
  where
    go : (t : Bool) → SecondBefore (second_if t a) (second_if t b) → a < b
    go false z = absurd z
    go true z = z

-- the rest of a list is what is left without its first finding
listed-rest : {number : ℕ} {Q R : ℕ → Second → Type 0} {f : Finding} {fs : List Finding} → Listed number Q (f ∷ fs) → ((x : ℕ) (s : Second) → R x s → Q x s)
    → ((x : ℕ) (s : Second) → R x s → ¬ (finding_of number x s ≡ f)) → ((x : ℕ) (s : Second) → Q x s → ¬ (finding_of number x s ≡ f) → R x s) → Listed number R fs
listed-rest {number} {Q} {R} {f} {fs} a to apart from = record {
  ordered = order-rest a.ordered;
  sound = λ g o. let q = a.sound g (later o) in (q.0, from g.item.0 g.second q.1 (λ e. order-apart a.ordered (subst (λ (k : Finding). One k fs) (sym (finding-parts g q.0) ∙ e) o)));
  whole = λ x s r. ⊎_elim (λ e. absurd (apart x s r e)) (λ o. o) (one-cases (a.whole x s (to x s r)));
}

module _ {C : Cell → Type 0} {n : Counts} where
  -- from the first finding of a row on: what breaks the rule from that row on
  pub left-from : {p : Plan} {from : ℕ} {c : declared.Cursor} → Sought C n p from c → (x : ℕ) (s : Second) → Left C n c x s → PlanBreaks C n p x s × (from ≤ x)
  left-from {p} {from} {c} k x s h = (subst (λ (q : Plan). PlanBreaks C n q x s) k.plan h.breaks, ⊎_elim (λ l. omega (arith, k.since)) (λ l. omega (arith, k.since, l.0)) h.ahead)

  -- and the other way
  pub from-left : {p : Plan} {from : ℕ} {c : declared.Cursor} → Sought C n p from c → (x : ℕ) (s : Second) → PlanBreaks C n p x s → from ≤ x → Left C n c x s
  from-left {p} {from} {c} k x s b l = record { breaks = b'; ahead = go (ℕ_discrete c.x x) }
    where
      b' : PlanBreaks C n c.plan x s
      b' = subst (λ (q : Plan). PlanBreaks C n q x s) (sym k.plan) b

      at : c.x ≡ x → RowHas c.row (place_of s)
      at e =
          let q = breaks-place C n c.plan x s b' in
          k.whole (place_of s) (omega (arith, breaks-item C n p x s b)) q.0 (subst (λ (z : ℕ). PlaceBreaks C n c.plan z (place_of s)) (sym e) q.1)

      go : Dec (c.x ≡ x) → (c.x < x) ⊎ ((c.x ≡ x) × RowHas c.row (place_of s))
      go (yes e) = inr (e, at e)
      go (no e) = inl (later-row (ℕ_discrete c.x x))
        where
          later-row : Dec (c.x ≡ x) → c.x < x
          later-row (yes q) = absurd (e q)
          later-row (no q) = above (dec_lt x c.x)
            where
              above : Dec (x < c.x) → c.x < x
              above (yes r) = absurd (k.gone.none x s l r b)
              above (no r) = omega arith

  -- the cursor from row 0 on has all
  pub sought-begins : {p : Plan} {c : declared.Cursor} → Sought C n p 0 c → Begins C n p c
  sought-begins k = record { all = λ number fs a. record { stands = k.stands; list = listed-iff (λ x s b. from-left k x s b (omega arith)) (λ x s h. (left-from k x s h).0) a } }

  -- the finding at the cursor is to come
  pub here-left : {c : declared.Cursor} → Stands C n c → DeclaredItem n c.x → Left C n c c.x (second_at c.plan.head c.y)
  here-left {c} k l =
      let q = k.row c.y (k.here l) in
      record {
        breaks = place-breaks C n c.plan c.x c.y l q.1 q.2;
        ahead = inr (refl, subst (λ (z : ℕ). RowHas c.row z) (sym (place-second C n c.plan c.x c.y q.2)) (k.here l));
      }

  -- what is to come is in a row before the end, and not before the cursor's
  pub left-within : {c : declared.Cursor} {x : ℕ} {s : Second} → Left C n c x s → (c.x ≤ x) × DeclaredItem n x
  left-within {c} {x} {s} h = (⊎_elim (λ l. omega arith) (λ l. omega (arith, l.0)) h.ahead, breaks-item C n c.plan x s h.breaks)

  -- the first finding to come is that at the cursor
  pub ahead-current : {number : ℕ} {c : declared.Cursor} {f : Finding} {fs : List Finding} → Ahead C n number c (f ∷ fs) → f ≡ current_of number c
  ahead-current {number} {c} {f} {fs} a = go (one-cases (a.list.whole c.x (second_at c.plan.head c.y) (here-left a.stands inside)))
    where
      h : (f.rule ≡ number) × Left C n c f.item.0 f.second
      h = a.list.sound f first

      inside : DeclaredItem n c.x
      inside = let q = left-within h.1 in omega (arith, q.0, q.1)

      earlier : Before f (current_of number c) → ⊥
      earlier (inl l) = omega (arith, (left-within h.1).0)
      earlier (inr l) =
          a.stands.least (place_of f.second)
          (second-less c.plan.head (place_of f.second) c.y (subst (λ (s : Second). SecondBefore s (second_at c.plan.head c.y)) (breaks-second C n c.plan f.item.0 f.second h.1.breaks) l.1))
          (⊎_elim (λ z. absurd (omega (arith, l.0))) (λ z. z.1) h.1.ahead)

      go : (current_of number c ≡ f) ⊎ One (current_of number c) fs → f ≡ current_of number c
      go (inl e) = sym e
      go (inr o) = absurd (earlier (order-before a.list.ordered o))

  -- at the end there is no finding
  pub ahead-end : {number : ℕ} {c : declared.Cursor} → Ahead C n number c [] → n.items ≤ c.x
  ahead-end {number} {c} a = go (dec_lt c.x n.items)
    where
      go : Dec (DeclaredItem n c.x) → n.items ≤ c.x
      go (yes l) = absurd (one_none (a.list.whole c.x (second_at c.plan.head c.y) (here-left a.stands l)))
      go (no l) = omega arith

  -- past the last row the cursor stays
  pub advances-end : {c : declared.Cursor} → n.items ≤ c.x → Advances C n c c
  advances-end {c} l = record { next = λ number f fs a. absurd (over (left-within (a.list.sound f first).1)); stays = λ number a. a }
    where
      over : {x : ℕ} → (c.x ≤ x) × DeclaredItem n x → ⊥
      over q = omega (arith, q.0, q.1)

module _ (C : Cell → Type 0) (n : Counts) (c : declared.Cursor) (lx : DeclaredItem n c.x) (w : n.items ≤ 64 * room) {here rest : List ℕ} (one : ItemRow c.y here) (less : Without c.row here rest) where
  -- what is left in the row, and the one that is not
  rest_has : Stands C n c → (y : ℕ) → RowHas c.row y → ¬ (y ≡ c.y) → RowHas rest y
  rest_has k y h e = less.has y (omega (arith, (k.row y h).1)) h (λ z. e (one.only y z))

  rest-not : Stands C n c → ¬ (RowHas rest c.y)
  rest-not k h = less.right c.y h (one.has (omega (arith, (k.row c.y (less.left c.y h)).1)))

  -- the finding at a place is that of the cursor only at the cursor's place
  same_place : {number x : ℕ} {s : Second} → Stands C n c → RowHas c.row (place_of s) → finding_of number x s ≡ current_of number c → (x ≡ c.x) × (place_of s ≡ c.y)
  same_place {number} {x} {s} k h e = (
    ap (λ (f : Finding). f.item.0) e,
    ap (λ (f : Finding). place_of f.second) e ∙ place-second C n c.plan c.x c.y (k.row c.y (k.here lx)).2,
  )

  at-current : {number x : ℕ} {s : Second} → PlanBreaks C n c.plan x s → c.x ≡ x → place_of s ≡ c.y → finding_of number x s ≡ current_of number c
  at-current {number} {x} {s} b e q =
      ap (λ (t : Second). finding_of number x t) (breaks-second C n c.plan x s b ∙ ap (second_at c.plan.head) q)
      ∙ ap (λ (z : ℕ). finding_of number z (second_at c.plan.head c.y)) (sym e)

  -- a place is left in the row
  pub advances-row : {y : ℕ} → Least rest y → DeclaredItem n y → Advances C n c (record { plan = c.plan; row = rest; x = c.x; y = y })
  advances-row {y} d ly = record {
    next = λ number f fs a. record { stands = stands a.stands; list = list number f fs a (ahead-current a) };
    stays = λ number a. absurd (omega (arith, ahead-end a));
  }
    where
      d' : declared.Cursor
      d' = record { plan = c.plan; row = rest; x = c.x; y = y }

      stands : Stands C n c → Stands C n d'
      stands k = record { row = λ z h. k.row z (less.left z h); here = λ l. d.found (omega arith); least = d.least }

      list : (number : ℕ) (f : Finding) (fs : List Finding) → Ahead C n number c (f ∷ fs) → f ≡ current_of number c → Listed number (Left C n d') fs
      list number f fs a e = listed-rest a.list to apart from
        where
          to : (x : ℕ) (s : Second) → Left C n d' x s → Left C n c x s
          to x s h = record { breaks = h.breaks; ahead = ⊎_elim inl (λ z. inr (z.0, less.left (place_of s) z.1)) h.ahead }

          apart : (x : ℕ) (s : Second) → Left C n d' x s → ¬ (finding_of number x s ≡ f)
          apart x s h q = go h.ahead
            where
              go : (c.x < x) ⊎ ((c.x ≡ x) × RowHas rest (place_of s)) → ⊥
              go (inl l) = omega (arith, ap (λ (g : Finding). g.item.0) (q ∙ e))
              go (inr l) = rest-not a.stands (subst (λ (z : ℕ). RowHas rest z) (same_place {s = s} a.stands (less.left (place_of s) l.1) (q ∙ e)).1 l.1)

          from : (x : ℕ) (s : Second) → Left C n c x s → ¬ (finding_of number x s ≡ f) → Left C n d' x s
          from x s h q = record { breaks = h.breaks; ahead = ⊎_elim inl (λ z. inr (z.0, rest_has a.stands (place_of s) z.1 (λ r. q (at-current {s = s} h.breaks z.0 r ∙ sym e)))) h.ahead }

  -- no place is left in the row: the next row that has one
  pub advances-rows : {y : ℕ} {d' : declared.Cursor} → Least rest y → n.items ≤ y → Sought C n c.plan (c.x + 1) d' → Advances C n c d'
  advances-rows {y} {d'} d ly k = record {
    next = λ number f fs a. record { stands = k.stands; list = list number f fs a (ahead-current a) };
    stays = λ number a. absurd (omega (arith, ahead-end a));
  }
    where
      list : (number : ℕ) (f : Finding) (fs : List Finding) → Ahead C n number c (f ∷ fs) → f ≡ current_of number c → Listed number (Left C n d') fs
      list number f fs a e = listed-rest a.list to apart from
        where
          to : (x : ℕ) (s : Second) → Left C n d' x s → Left C n c x s
          to x s h = let q = left-from k x s h in record { breaks = q.0; ahead = inl (omega (arith, q.1)) }

          apart : (x : ℕ) (s : Second) → Left C n d' x s → ¬ (finding_of number x s ≡ f)
          apart x s h q = omega (arith, (left-from k x s h).1, ap (λ (g : Finding). g.item.0) (q ∙ e))

          from : (x : ℕ) (s : Second) → Left C n c x s → ¬ (finding_of number x s ≡ f) → Left C n d' x s
          from x s h q = from-left k x s h.breaks (go h.ahead)
            where
              go : (c.x < x) ⊎ ((c.x ≡ x) × RowHas c.row (place_of s)) → c.x + 1 ≤ x
              go (inl l) = omega arith
              go (inr l) =
                  let r = rest_has a.stands (place_of s) l.1 (λ z. q (at-current {s = s} h.breaks l.0 z ∙ sym e)) in
                  absurd (d.least (place_of s) (omega (arith, (a.stands.row (place_of s) l.1).1)) r)

-- ---- how many

-- the numbers of a row are as many as its set bits
pub row_number : (r : List ℕ) → Words 64 r → Number (RowHas r) (total r)
row_number r w = number-iff to from (number-map place same (bits-number 64 r w))
  where
    place : ℕ × ℕ → ℕ
    place p = p.0 * 64 + p.1

    same : (p q : ℕ × ℕ) → SetBit r p → SetBit r q → place p ≡ place q → p ≡ q
    same p q h g e =
        let a = has-lt 64 (w p.0) h in
        let b = has-lt 64 (w q.0) g in
        let i : p.0 ≡ q.0 = omega arith in
        let k : p.1 ≡ q.1 = omega arith in
        ap (λ (x : ℕ). (x, p.1)) i ∙ ap (λ (x : ℕ). (q.0, x)) k

    to : (y : ℕ) → (p : ℕ × ℕ) × SetBit r p × (y ≡ place p) → RowHas r y
    to y h =
        let a = has-lt 64 (w h.0.0) h.1 in
        let i : h.0.0 ≡ y / 64 = omega (arith, h.2) in
        let k : h.0.1 ≡ y % 64 = omega (arith, h.2) in
        at_place r i (at-bit k h.1)

    from : (y : ℕ) → RowHas r y → (p : ℕ × ℕ) × SetBit r p × (y ≡ place p)
    from y h = ((y / 64, y % 64), h, omega arith)

-- and no more than it has room for
pub row-total : (r : List ℕ) → Words 64 r → length r ≡ room → total r ≤ 64 * room
row-total r w e = omega (arith, total-le 64 r w)

module _ (C : Cell → Type 0) (n : Counts) (p : Plan) where
  -- before the first row
  pub count_none : Number (BrokenBelow C n p 0) 0
  count_none = number-none (λ q h. omega (arith, h.0))

  -- one row more
  pub count-more : {j k x : ℕ} {r : List ℕ} → Number (BrokenBelow C n p x) j → DeclaredItem n x → Marks n.items r (PlaceBreaks C n p x) → Number (RowHas r) k → Number (BrokenBelow C n p (x + 1)) (j + k)
  count-more {j} {k} {x} {r} a lx m b = number-iff to from (number-or apart a (number-map place same b))
    where
      place : ℕ → ℕ × Second
      place y = (x, second_at p.head y)

      Here : ℕ × Second → Type 0
      Here q = (y : ℕ) × RowHas r y × (q ≡ place y)

      same : (y z : ℕ) → RowHas r y → RowHas r z → place y ≡ place z → y ≡ z
      same y z h g e = place-unique C n p x y z (m.sound y h).1 (m.sound z g).1 (ap (λ (q : ℕ × Second). q.1) e)

      apart : (q : ℕ × Second) → BrokenBelow C n p x q → ¬ (Here q)
      apart q h g = omega (arith, h.0, ap (λ (t : ℕ × Second). t.0) g.2)

      to : (q : ℕ × Second) → BrokenBelow C n p x q ⊎ Here q → BrokenBelow C n p (x + 1) q
      to q = ⊎_elim (λ h. (omega (arith, h.0), h.1)) (λ h. subst (BrokenBelow C n p (x + 1)) (sym h.2) (omega arith, place-breaks C n p x h.0 lx (m.sound h.0 h.1).0 (m.sound h.0 h.1).1))

      from : (q : ℕ × Second) → BrokenBelow C n p (x + 1) q → BrokenBelow C n p x q ⊎ Here q
      from q h = go (ℕ_discrete q.0 x)
        where
          go : Dec (q.0 ≡ x) → BrokenBelow C n p x q ⊎ Here q
          go (no e) = inl (omega (arith, h.0), h.1)
          go (yes e) =
              let t = subst (λ (z : ℕ). PlanBreaks C n p z q.1) e h.1 in
              let g = breaks-place C n p x q.1 t in
              inr (place_of q.1, m.whole (place_of q.1) g.0 g.1, ap (λ (z : ℕ). (z, q.1)) e ∙ ap (λ (s : Second). (x, s)) (breaks-second C n p x q.1 t))

  -- after the last row
  pub count-all : {k x : ℕ} → Number (BrokenBelow C n p x) k → n.items ≤ x → Number (PlanBroken C n p) k
  count-all a l = number-iff (λ q h. h.1) (λ q h. (omega (arith, breaks-item C n p q.0 q.1 h), h)) a

  -- a rule about one item: as many as the items that break it
  pub count-alone : {k : ℕ} {r : List ℕ} → is_pair p.head ≡ false → Marks n.items r (BreaksBy C (RowHas p.left) (RowHas p.right) p.head) → Number (RowHas r) k → Number (PlanBroken C n p) k
  count-alone {k} {r} e m b = number-iff to from (number-map place (λ x z h g q. ap (λ (t : ℕ × Second). t.0) q) b)
    where
      place : ℕ → ℕ × Second
      place x = (x, second_at p.head 0)

      Here : ℕ × Second → Type 0
      Here q = (x : ℕ) × RowHas r x × (q ≡ place x)

      to : (q : ℕ × Second) → Here q → PlanBroken C n p q
      to q h =
          let z = m.sound h.0 h.1 in
          subst (PlanBroken C n p) (sym h.2) (place-breaks C n p h.0 0 z.0 (omega (arith, z.0)) (subst (λ (t : Bool). PlaceIf C n p h.0 t 0) (sym e) (refl, z.1)))

      from : (q : ℕ × Second) → PlanBroken C n p q → Here q
      from q h =
          let z = subst (λ (t : Bool). PlaceIf C n p q.0 t (place_of q.1)) e (breaks-place C n p q.0 q.1 h).1 in
          let s = breaks-second C n p q.0 q.1 h ∙ ap (second_at p.head) z.0 in
          (q.0, m.whole q.0 (breaks-item C n p q.0 q.1 h) z.1, ap (λ (t : Second). (q.0, t)) s)
