-- Laws of the items that a role links to so many articles: one by whole rows, several by the items found that have no lower-numbered same item. Assumes nothing.
use Rattle.std.specs.Prelude.{◌≡◌, refl, Bool, true, false, not, List, [], ◌∷◌, ℕ, zero, suc, ◌*◌, ◌/◌, ◌%◌, ◌≤◌, ◌<◌, length, get_or}
use Rattle.std.proofs.Common.{sym, subst, ⊎_elim, arith}
use mathlib.Core.Logic.Dec
use Rattle.logic.specs.Number.{Number}
use Rattle.logic.specs.own.Decides.{Decides}
use Rattle.logic.specs.laws.Decides.{decides-iff}
use Rattle.logic.specs.laws.Number.{number-iff, number-none, one-cases, one_none, one_of}
use Rattle.row.specs.own.Row.{RowHas}
use Rattle.row.specs.own.Pick.{AllBelow, Empty, InBoth, Marks, room}
use Rattle.row.specs.laws.Bit.{at_place, has?}
use Rattle.row.specs.laws.Pick.{row_room}
use Rattle.row.specs.laws.Marks.{marks-ever, marks-iff, marks-never}
use Rattle.store.specs.declared.Counts.{Counts}
use Rattle.store.specs.Cell.{Cell, DeclaredItem, Obeys}
use Rattle.store.specs.Cell.Cell.{Link, Same}
use Rattle.store.specs.Layout.{ClosedStore, Holds}
use Rattle.store.specs.laws.Cells.{holds?}
use Rattle.rule.specs.declared.RoleUse.{RoleUse}
use Rattle.rule.specs.Meaning.{LinkedWay, Linked, Articles}
use Rattle.rule.specs.Meaning.Different.{none, more}
use Rattle.rule.proofs.laws.Articles.{Covered, articles-iff, cover-le}
use Rattle.rule.proofs.laws.Told.{linked?}
use Rattle.links.specs.own.Reach.{Reached}
use Rattle.expression.specs.own.Lead.{Leads}
use Rattle.expression.specs.own.Row.{Found, turned}
use Rattle.expression.specs.laws.Lead.{articles-leads, leads-articles, leads-whole}

-- ---- one article: by the turned role

-- where there is an article there is an item
some_item : {C : Cell → Type 0} {n : Counts} {j : ℕ} {P : ℕ → Type 0} → Articles C n (suc j) P → (b : ℕ) × DeclaredItem n b × P b
some_item a = let o = one_of a.items (omega (arith, a.count)) in let h = a.each o.0 o.1 in (o.0, h.0, h.1)

-- and an item is an article
one-article : {C : Cell → Type 0} {n : Counts} {P : ℕ → Type 0} (b : ℕ) → DeclaredItem n b → P b → Articles C n 1 P
one-article {n = n} {P = P} b l h = record {
  items = b ∷ [];
  count = refl;
  each = λ x q. ⊎_elim (λ e. subst (λ (y : ℕ). DeclaredItem n y × P y) (sym e) (l, h)) (λ w. absurd (one_none w)) (one-cases q);
  different = more (λ y q. absurd (one_none q)) none;
}

-- the turned role links back
turned-way : (C : Cell → Type 0) (v : Bool) (r x y : ℕ) → LinkedWay C v r x y → LinkedWay C (not v) r y x
turned-way C false r x y h = h
turned-way C true r x y h = h

way-turned : (C : Cell → Type 0) (v : Bool) (r x y : ℕ) → LinkedWay C (not v) r y x → LinkedWay C v r x y
way-turned C false r x y h = h
way-turned C true r x y h = h

-- what is linked to is declared
way-declared : (W : ℕ) (n : Counts) (s : List ℕ) (v : Bool) (r x y : ℕ) → LinkedWay (Holds W n s) v r x y → DeclaredItem n y
way-declared W n s false r x y h = h.within.2
way-declared W n s true r x y h = h.within.1

-- the items that have one article: those that the turned role reaches
pub some-marks : {W k : ℕ} {n : Counts} {s r : List ℕ} {v : RoleUse} {P : ℕ → Type 0} (u : RoleUse) → k ≡ 1 → v ≡ turned u → Marks n.items r (Reached (Linked (Holds W n s) v) P)
    → Marks n.items r (λ x. Articles (Holds W n s) n k (Found (Holds W n s) u P x))
some-marks {W} {k} {n} {s} {r} {v} {P} u e t m = rw e (marks-iff there back (subst (λ (w : RoleUse). Marks n.items r (Reached (Linked C w) P)) t m))
  where
    C : Cell → Type 0
    C = Holds W n s

    there : (x : ℕ) → DeclaredItem n x → Reached (Linked C (turned u)) P x → Articles C n 1 (Found C u P x)
    there x l q =
        let h = way-turned C u.inverse u.role.0 x q.from q.link in
        one-article q.from (way-declared W n s u.inverse u.role.0 x q.from h) (h, q.has)

    back : (x : ℕ) → DeclaredItem n x → Articles C n 1 (Found C u P x) → Reached (Linked C (turned u)) P x
    back x l a = let h = some_item a in record { from = h.0; has = h.2.1; link = turned-way C u.inverse u.role.0 x h.0 h.2.0 }

-- what the turned role reaches, where it is kept under another name
pub turned-marks : {n : ℕ} {r : List ℕ} {v : RoleUse} {P : ℕ → Type 0} (C : Cell → Type 0) (u : RoleUse) → v ≡ turned u → Marks n r (Reached (Linked C v) P) → Marks n r (Reached (Linked C (turned u)) P)
turned-marks {n} {r} {P = P} C u e m = subst (λ (w : RoleUse). Marks n r (Reached (Linked C w) P)) e m

-- no article, which every item has
pub none-marks : {k : ℕ} {C : Cell → Type 0} {n : Counts} {r : List ℕ} {P : ℕ → ℕ → Type 0} → k ≡ 0 → AllBelow n.items r → Marks n.items r (λ x. Articles C n k (P x))
none-marks e a = rw e (marks-ever a (λ x l. record { items = []; count = refl; each = λ b q. absurd (one_none q); different = none }))

-- ---- several articles: by the items that lead

-- what is the same is linked the same
way_same : {C : Cell → Type 0} {n : Counts} → Obeys n C → (v : Bool) (r x : ℕ) {y b : ℕ} → DeclaredItem n x → C (Same b y) → LinkedWay C v r x y → LinkedWay C v r x b
way_same o false r x l s h = o.link-same (o.same_refl l) (o.same-sym s) h
way_same o true r x l s h = o.link-same (o.same-sym s) (o.same_refl l) h

-- an item leads among those that x is linked to if it leads among all
leads-found : {C : Cell → Type 0} {P : ℕ → Type 0} (u : RoleUse) (x b : ℕ) → Linked C u x b → Leads C P b → Leads C (Found C u P x) b
leads-found u x b h d = record { has = (h, d.has); first = λ c lc f. d.first c lc f.1 }

-- and only then, as what is the same is linked the same
found-leads : {C : Cell → Type 0} {n : Counts} {P : ℕ → Type 0} → Obeys n C → (u : RoleUse) (x b : ℕ) → DeclaredItem n x → Leads C (Found C u P x) b → Linked C u x b × Leads C P b
found-leads o u x b l d = (d.has.0, record { has = d.has.1; first = λ c lc q s. d.first c lc (way_same o u.inverse u.role.0 x l (o.same-sym s) d.has.0, q) s })

-- so many articles with the property P as items that lead among those of the row p, which has what x is linked to of them
module _ {W m : ℕ} {n : Counts} {s lead : List ℕ} {P : ℕ → Type 0} (p : List ℕ) (u : RoleUse) (x : ℕ) (c : ClosedStore W n s) (d : Marks n.items lead (Leads (Holds W n s) (RowHas p))) (l : DeclaredItem n x)
    (to : (b : ℕ) → RowHas p b → P b) (from : (b : ℕ) → Linked (Holds W n s) u x b → P b → RowHas p b) (a : Number (λ y. Linked (Holds W n s) u x y × RowHas lead y) m) where
  inside : (y : ℕ) → Found (Holds W n s) u (RowHas p) x y → DeclaredItem n y
  inside y h = way-declared W n s u.inverse u.role.0 x y h.0

  told? : (b : ℕ) → Dec (Found (Holds W n s) u (RowHas p) x b)
  told? b = Dec.and (linked? (holds? W n s) u x b) (has? (get_or p (b / 64) 0) (b % 64))

  number : Number (Leads (Holds W n s) (Found (Holds W n s) u (RowHas p) x)) m
  number = number-iff (λ y h. leads-found u x y h.0 (d.sound y h.1).1) (λ y h. let z = found-leads c.closed.obeys u x y l h in (z.0, d.whole y (inside y h.has) z.1)) a

  pub enough-articles : {k : ℕ} → k ≤ m → Articles (Holds W n s) n k (Found (Holds W n s) u P x)
  enough-articles h = articles-iff (λ b lb f. (f.0, to b f.1)) (leads-articles c.closed.obeys (holds? W n s) told? number inside h)

  pub articles-enough : {k : ℕ} → Articles (Holds W n s) n k (Found (Holds W n s) u P x) → k ≤ m
  articles-enough f = articles-leads c.closed.obeys (holds? W n s) told? number (articles-iff (λ b lb h. (h.0, from b h.0 h.1)) f)

-- so many articles of the row p as items that lead among those that an item of the row q is linked to, where x is one of q
pub several-articles : {W m k : ℕ} {n : Counts} {s lead : List ℕ} {t : Bool} (p q both : List ℕ) (u : RoleUse) (x : ℕ) → ClosedStore W n s
    → Marks n.items both (λ b. Reached (Linked (Holds W n s) u) (RowHas q) b × RowHas p b) → Marks n.items lead (Leads (Holds W n s) (RowHas both)) → DeclaredItem n x → RowHas q x
    → Number (λ y. Linked (Holds W n s) u x y × RowHas lead y) m → Decides t (k ≤ m) → Decides t (Articles (Holds W n s) n k (Found (Holds W n s) u (RowHas p) x))
several-articles {W} {n = n} {s} p q both u x c f d l here a = decides-iff (enough-articles both u x c d l inside found a) (articles-enough both u x c d l inside found a)
  where
    inside : (b : ℕ) → RowHas both b → RowHas p b
    inside b h = (f.sound b h).1.1

    found : (b : ℕ) → Linked (Holds W n s) u x b → RowHas p b → RowHas both b
    found b z h = f.whole b (way-declared W n s u.inverse u.role.0 x b z) (record { from = x; has = here; link = z }, h)

-- an item of several articles has one
pub several-some : {n : Counts} {W : ℕ} {s q : List ℕ} {P : ℕ → Type 0} (u : RoleUse) (k x : ℕ) → 1 ≤ k → Marks n.items q (Reached (Linked (Holds W n s) (turned u)) P) → DeclaredItem n x
    → ¬ (RowHas q x) → ¬ (Articles (Holds W n s) n k (Found (Holds W n s) u P x))
several-some u zero x l m lx h a = absurd (omega arith)
several-some {n = n} {W = W} {s = s} u (suc k) x l m lx h a = let b = some_item a in h (m.whole x lx (record { from = b.0; has = b.2.1; link = turned-way (Holds W n s) u.inverse u.role.0 x b.0 b.2.0 }))

-- fewer leaders than articles asked for
pub several-none : {W m k : ℕ} {n : Counts} {s r lead : List ℕ} (p q both : List ℕ) (u : RoleUse) → ClosedStore W n s → Marks n.items q (Reached (Linked (Holds W n s) (turned u)) (RowHas p))
    → Marks n.items both (λ b. Reached (Linked (Holds W n s) u) (RowHas q) b × RowHas p b) → Marks n.items lead (Leads (Holds W n s) (RowHas both)) → Number (RowHas lead) m → m < k → Empty r
    → Marks n.items r (λ x. Articles (Holds W n s) n k (Found (Holds W n s) u (RowHas p) x))
several-none {W} {n = n} {s} {lead = lead} p q both u c m t d a few e = marks-never e (λ x lx f. omega (arith, f.count, a.count, cover-le c.closed.obeys f.different (λ y oy. covered x lx y (f.each y oy))))
  where
    C : Cell → Type 0
    C = Holds W n s

    covered : (x : ℕ) → DeclaredItem n x → (y : ℕ) → DeclaredItem n y × Found C u (RowHas p) x y → Covered C a.all y
    covered x lx y z =
        let here = m.whole x lx (record { from = y; has = z.1.1; link = turned-way C u.inverse u.role.0 x y z.1.0 }) in
        let b = leads-whole c.closed.obeys (holds? W n s) (λ v. has? (get_or both (v / 64) 0) (v % 64)) y z.0 (t.whole y z.0 (record { from = x; has = here; link = z.1.0 }, z.1.1)) in
        (b.0, a.whole b.0 (d.whole b.0 b.2.within.0 b.1), b.2)

-- how many numbers a row has in common with itself
pub size_number : {m : ℕ} (p : List ℕ) → length p ≡ room → Number (InBoth p 0 room p) m → Number (RowHas p) m
size_number p e a = number-iff (λ x b. b.there) (λ x h. record { inside = omega (arith, row_room p e x h); here = at_place p (omega arith) h; there = h }) a

-- how many of the row p the inverse links x to, by the row of what links to x
pub back-number : {W m : ℕ} {n : Counts} {s p r : List ℕ} (u : RoleUse) (x : ℕ) → n.items ≤ 64 * W → u.inverse ≡ true → Marks n.items r (λ y. Holds W n s (Link u.role.0 y x)) → Number (InBoth r 0 W p) m
    → Number (λ y. Linked (Holds W n s) u x y × RowHas p y) m
back-number {r = r} u x small v d a =
    rw v (number-iff (λ y b. ((d.sound y (at_place r (omega arith) b.here)).1, b.there)) (λ y b. record { inside = omega (arith, b.0.within.1); here = at_place r (omega arith) (d.whole y b.0.within.1 b.0); there = b.1 }) a)

-- a role that is not declared links to none
pub number-undeclared : (W : ℕ) (n : Counts) (s p : List ℕ) (u : RoleUse) (x : ℕ) → n.roles ≤ u.role.0 → Number (λ y. Linked (Holds W n s) u x y × RowHas p y) 0
number-undeclared W n s p u x l = number-none (λ y b. none-linked u.inverse y b.0)
  where
    none-linked : (v : Bool) (y : ℕ) → ¬ (LinkedWay (Holds W n s) v u.role.0 x y)
    none-linked false y c = omega (arith, c.within)
    none-linked true y c = omega (arith, c.within)
