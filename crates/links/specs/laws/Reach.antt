-- Laws of the rows that paths reach. Assumes nothing.
use Rattle.std.specs.Prelude.{◌≡◌, refl, Bool, true, false, List, [], ◌∷◌, ℕ, ◌+◌, ◌*◌, ◌≤◌, ◌<◌, take}
use Rattle.std.proofs.Common.{sym, subst, ⊎_elim, arith, take_all}
use Rattle.std.proofs.Math.Decide.{dec_lt, ℕ_discrete}
use Rattle.logic.specs.own.Decides.{Decides}
use Rattle.logic.specs.laws.Decides.{decides-iff}
use Rattle.row.specs.own.Row.{RowHas}
use Rattle.row.specs.own.Pick.{Empty, Marked, Marks, Next, room}
use Rattle.row.specs.laws.Marks.{marks-never, marks-skip}
use Rattle.store.specs.declared.Counts.{Counts}
use Rattle.store.specs.Cell.{Cell, DeclaredItem}
use Rattle.store.specs.Cell.Cell.{Link}
use Rattle.store.specs.Layout.{Holds}
use Rattle.store.specs.own.Look.{LinksJoined, LinksMeet}
use Rattle.rule.specs.declared.RoleUse.{RoleUse}
use Rattle.rule.specs.Meaning.{LinkedWay, Linked}
use Rattle.rule.specs.Breaks.{Path}
use Rattle.links.specs.own.Reach.{Reached, Ends, Gathered, ItemRow}

-- ---- the items that the items of a row are linked to

-- before the first item
pub gathered_none : {n : ℕ} {L : ℕ → ℕ → Type 0} {P : ℕ → Type 0} {r : List ℕ} → Empty r → Gathered n L P 0 r
gathered_none e = record { sound = λ y h. absurd (e.none y h); whole = λ x y l p q. absurd (omega arith) }

-- items that are not in the row change nothing
pub gathered-skip : {n i z : ℕ} {L : ℕ → ℕ → Type 0} {P : ℕ → Type 0} {r : List ℕ} → Gathered n L P i r → ((x : ℕ) → i ≤ x → x < z → ¬ (P x)) → Gathered n L P z r
gathered-skip {i = i} {z} {L} {P} {r} g f = record { sound = g.sound; whole = λ x y l p q. go x y l p q (dec_lt x i) }
  where
    go : (x y : ℕ) → x < z → P x → L x y → Dec (x < i) → RowHas r y
    go x y l p q (yes h) = g.whole x y h p q
    go x y l p q (no h) = absurd (f x (omega arith) l p)

-- from an item that is not in the row up to the next that is, there is none
pub none_between : {n x y : ℕ} {p : List ℕ} → ¬ (RowHas p x) → Next p (x + 1) n y → (z : ℕ) → x ≤ z → z < y → ¬ (RowHas p z)
none_between {x = x} {y} {p} f d z l h q = go (ℕ_discrete z x)
  where
    go : Dec (z ≡ x) → ⊥
    go (yes e) = f (subst (λ (i : ℕ). RowHas p i) e q)
    go (no e) = d.least z (omega arith) h q

-- an item that is in it adds its links
pub gathered-more : {W z : ℕ} {n : Counts} {s r t : List ℕ} {P : ℕ → Type 0} (role : ℕ) → Gathered n.items (LinkedWay (Holds W n s) false role) P z r → P z
    → LinksJoined (Holds W n s) n role z r t → Gathered n.items (LinkedWay (Holds W n s) false role) P (z + 1) t
gathered-more {W} {z} {n} {s} {r} {t} {P} role g p d = record {
  sound = λ y h. ⊎_elim (g.sound y) (λ c. (c.within.2, record { from = z; has = p; link = c })) (d.sound y h);
  whole = λ x y l px q. whole x y l px q (ℕ_discrete x z);
}
  where
    whole : (x y : ℕ) → x < z + 1 → P x → Holds W n s (Link role x y) → Dec (x ≡ z) → RowHas t y
    whole x y l px q (yes e) = d.links y (subst (λ (a : ℕ). Holds W n s (Link role a y)) e q)
    whole x y l px q (no e) = d.keeps y q.within.2 (g.whole x y (omega arith) px q)

-- after the last item
pub gathered-done : {W i : ℕ} {n : Counts} {s r : List ℕ} {P : ℕ → Type 0} (role : ℕ) → Gathered n.items (LinkedWay (Holds W n s) false role) P i r → n.items ≤ i
    → Marks n.items r (Reached (LinkedWay (Holds W n s) false role) P)
gathered-done role g l = record { sound = g.sound; whole = λ y ly q. g.whole q.from y (omega (arith, q.link.within.1)) q.has q.link }

-- a role that is not declared links nothing
pub reached-none : (W : ℕ) (n : Counts) (s : List ℕ) {r : List ℕ} {P : ℕ → Type 0} (v : Bool) (role : ℕ) → n.roles ≤ role → Empty r → Marks n.items r (Reached (LinkedWay (Holds W n s) v role) P)
reached-none W n s v role l e = marks-never e (λ y ly q. none v q.from y q.link)
  where
    none : (b : Bool) (x y : ℕ) → LinkedWay (Holds W n s) b role x y → ⊥
    none false x y h = omega (arith, h.within.0)
    none true x y h = omega (arith, h.within.0)

-- the inverse links an item of the row p to y: the role links y to one
pub reached-back : {W : ℕ} {n : Counts} {s p : List ℕ} {b : Bool} (role y : ℕ) → Decides b (LinksMeet (Holds W n s) role y p) → Decides b (Reached (LinkedWay (Holds W n s) true role) (RowHas p) y)
reached-back role y d = decides-iff (λ m. record { from = m.item; has = m.has; link = m.link }) (λ q. record { item = q.from; link = q.link; has = q.has }) d

-- no item, nothing reached
pub reached-no : {W i : ℕ} {n : Counts} {s p r : List ℕ} (role : ℕ) → Next p 0 n.items i → i ≡ n.items → Empty r → Marks n.items r (Reached (LinkedWay (Holds W n s) true role) (RowHas p))
reached-no role d e none = marks-never none (λ y ly q. d.least q.from (omega arith) (omega (arith, q.link.within.2)) q.has)

-- a number more that is not to be marked
pub marks-pass : {i : ℕ} {r : List ℕ} {P : ℕ → Type 0} → Marks i r P → ¬ (P i) → Marks (i + 1) r P
marks-pass {i} {P = P} m f = marks-skip m (omega arith) (λ x l h p. let e : x ≡ i = omega arith in f (subst P e p))

-- ---- paths

-- the row of x alone
pub item-row-marked : {x : ℕ} {s t : List ℕ} → Empty s → Marked true x s t → ItemRow x t
item-row-marked e m = record { has = λ l. m.gets refl; only = λ y h. ⊎_elim (λ z. absurd (e.none y z)) (λ z. z.1) (m.only y h) }

-- a number past the row's bits
pub item-row-past : {x : ℕ} {r : List ℕ} → 64 * room ≤ x → Empty r → ItemRow x r
item-row-past l e = record { has = λ h. absurd (omega arith); only = λ y h. absurd (e.none y h) }

module _ (C : Cell → Type 0) (n : Counts) where
  -- no role: the row itself
  pub ends-none : (p : List ℕ) → ((y : ℕ) → RowHas p y → DeclaredItem n y) → Marks n.items p (Ends C n [] (RowHas p))
  ends-none p f = record { sound = λ y h. (f y h, record { from = y; has = h; path = refl }); whole = λ y l e. subst (λ (z : ℕ). RowHas p z) e.path e.has }

  -- a role in front: its step first
  pub ends_more : (p q : List ℕ) {r : List ℕ} (u : RoleUse) {rs : List RoleUse} → Marks n.items q (Reached (Linked C u) (RowHas p)) → Marks n.items r (Ends C n rs (RowHas q))
      → Marks n.items r (Ends C n (u ∷ rs) (RowHas p))
  ends_more p q {r} u {rs} m d = record {
    sound = λ y h. let e = d.sound y h in (e.0, go y e.1 (m.sound e.1.from e.1.has));
    whole = λ y l e. let z = e.path in d.whole y l (record { from = z.0; has = m.whole z.0 z.1 (record { from = e.from; has = e.has; link = z.2 }); path = z.3 });
  }
    where
      go : (y : ℕ) (e : Ends C n rs (RowHas q) y) → DeclaredItem n e.from × Reached (Linked C u) (RowHas p) e.from → Ends C n (u ∷ rs) (RowHas p) y
      go y e z = record { from = z.1.from; has = z.1.has; path = (e.from, z.0, z.1.link, e.path) }

  -- the last role
  pub ends_last : (p q : List ℕ) (u : RoleUse) → Marks n.items q (Reached (Linked C u) (RowHas p)) → Marks n.items q (Ends C n (u ∷ []) (RowHas p))
  ends_last p q u m = ends_more p q u m (ends-none q (λ y h. (m.sound y h).0))

  -- a path of no role: the item itself
  pub path-none : (x : ℕ) {r : List ℕ} → DeclaredItem n x → n.items ≤ 64 * room → ItemRow x r → Marks n.items r (Path C n [] x)
  path-none x {r} l small a = record {
    sound = λ y h. (omega (arith, a.only y h), sym (a.only y h));
    whole = λ y ly e. subst (λ (z : ℕ). RowHas r z) e (a.has (omega arith));
  }

  -- a path from one item: the row of its links first
  pub path-first : (x : ℕ) (q : List ℕ) {r : List ℕ} (u : RoleUse) {rs : List RoleUse} → Marks n.items q (Linked C u x) → Marks n.items r (Ends C n rs (RowHas q)) → Marks n.items r (Path C n (u ∷ rs) x)
  path-first x q u m d = record {
    sound = λ y h. let e = d.sound y h in let z = m.sound e.1.from e.1.has in (e.0, (e.1.from, z.0, z.1, e.1.path));
    whole = λ y l e. d.whole y l (record { from = e.0; has = m.whole e.0 e.1 e.2; path = e.3 });
  }

-- a chain of four roles, of which more than three count
pub take-four : (k : ℕ) (a b c d : RoleUse) → 4 ≤ k → take k (a ∷ b ∷ c ∷ d ∷ []) ≡ a ∷ b ∷ c ∷ d ∷ []
take-four k a b c d l = take_all k (a ∷ b ∷ c ∷ d ∷ []) l
