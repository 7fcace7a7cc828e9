-- Laws of the items that have no lower-numbered same item: there are as many of them as articles, and what is kept of a row are these. Assumes nothing.
use Rattle.std.specs.Prelude.{◌≡◌, refl, ◌⊎◌, true, List, ℕ, ◌+◌, ◌≤◌, ◌<◌}
use Rattle.std.proofs.Common.{sym, subst, inl, inr, arith}
use mathlib.Core.Logic.Dec
use Rattle.std.proofs.Math.Decide.{dec_lt, ℕ_discrete}
use Rattle.logic.specs.Lowest.{Lowest}
use Rattle.logic.specs.Number.{Distinct, Number, One}
use Rattle.logic.specs.Number.One.{first, later}
use Rattle.logic.specs.Number.Distinct.{none as no_other, more as one_more}
use Rattle.logic.specs.laws.Lowest.{lowest-of}
use Rattle.row.specs.own.Row.{RowHas}
use Rattle.row.specs.own.Pick.{Marked, Marks}
use Rattle.row.specs.laws.Marks.{marks-iff}
use Rattle.store.specs.declared.Counts.{Counts}
use Rattle.store.specs.Cell.{Cell, DeclaredItem, Obeys}
use Rattle.store.specs.Cell.Cell.{Same}
use Rattle.store.specs.Layout.{ClosedStore, Holds}
use Rattle.store.specs.own.Look.{SameDropped}
use Rattle.rule.specs.Meaning.{Articles, Different}
use Rattle.rule.specs.Meaning.Different.{none, more}
use Rattle.rule.proofs.laws.Articles.{cover-le, fewer-articles}
use Rattle.expression.specs.own.Lead.{Kept, Leads}

-- ---- as many as articles

-- distinct items that are the same only as themselves
different-of : {C : Cell → Type 0} {xs : List ℕ} → Distinct xs → ((a b : ℕ) → One a xs → One b xs → C (Same a b) → a ≡ b) → Different C xs
different-of no_other f = none
different-of (one_more {x = x} {xs = xs} n d) f = more (λ y q s. n (subst (λ (z : ℕ). One z xs) (sym (f x y first (later q) s)) q)) (different-of d (λ a b p q. f a b (later p) (later q)))

module _ {C : Cell → Type 0} {n : Counts} (o : Obeys n C) {P : ℕ → Type 0} where
  -- two that lead are the same only if they are one
  leads-apart : (a b : ℕ) → Leads C P a → Leads C P b → C (Same a b) → a ≡ b
  leads-apart a b x y s = go (dec_lt a b) (dec_lt b a)
    where
      go : Dec (a < b) → Dec (b < a) → a ≡ b
      go (yes l) d = absurd (y.first a l x.has (o.same-sym s))
      go (no l) (yes h) = absurd (x.first b h y.has s)
      go (no l) (no h) = omega arith

  module _ (C? : (c : Cell) → Dec (C c)) (P? : (b : ℕ) → Dec (P b)) where
    -- of each article one leads
    pub leads-whole : (x : ℕ) → DeclaredItem n x → P x → (b : ℕ) × Leads C P b × C (Same b x)
    leads-whole x l h = go (lowest-of (λ b. Dec.and (P? b) (C? (Same b x))) x (h, o.same_refl l))
      where
        go : (b : ℕ) × Lowest (λ c. P c × C (Same c x)) b → (b : ℕ) × Leads C P b × C (Same b x)
        go b = let f = b.1.applies in (b.0, record { has = f.0; first = λ c lc q s. b.1.lowest c lc (q, o.same-trans (o.same-sym s) f.1) }, f.1)

    -- so many articles as items that have no lower-numbered same item
    module _ {m k : ℕ} (a : Number (Leads C P) m) where
      pub leads-articles : ((b : ℕ) → P b → DeclaredItem n b) → k ≤ m → Articles C n k P
      leads-articles inside h =
          fewer-articles k (different-of a.distinct (λ b e ob oe. leads-apart b e (a.sound b ob) (a.sound e oe))) (omega (arith, a.count))
          (λ b ob. let y = (a.sound b ob).has in (inside b y, y))

      pub articles-leads : Articles C n k P → k ≤ m
      articles-leads f =
          omega (arith, f.count, a.count, cover-le o f.different (λ y oy. let z = f.each y oy in let b = leads-whole y z.0 z.1 in (b.0, a.whole b.0 b.1, b.2)))

-- ---- what is kept of a row

-- before the first item all are kept
pub kept-none : {C : Cell → Type 0} {n : ℕ} (p : List ℕ) → ((x : ℕ) → RowHas p x → x < n) → Marks n p (Kept C (RowHas p) 0)
kept-none p f = record { sound = λ x h. (f x h, record { has = h; first = λ c l. absurd (omega arith) }); whole = λ x l k. k.has }

-- after the last item those are kept that lead
pub kept-done : {C : Cell → Type 0} {n : ℕ} {P : ℕ → Type 0} {r : List ℕ} {i : ℕ} → Marks n r (Kept C P i) → n ≤ i → Marks n r (Leads C P)
kept-done m l = marks-iff (λ x lx k. record { has = k.has; first = λ c lc. k.first c (omega arith) lc }) (λ x lx d. record { has = d.has; first = λ c lc. d.first c }) m

module _ {W : ℕ} {n : Counts} {s : List ℕ} (k : ClosedStore W n s) where
  -- from i on no item below j is kept: nothing changes
  pub kept-skip : {P : ℕ → Type 0} {r : List ℕ} {i j : ℕ} → Marks n.items r (Kept (Holds W n s) P i) → i ≤ j → ((x : ℕ) → i ≤ x → x < j → ¬ (RowHas r x)) → Marks n.items r (Kept (Holds W n s) P j)
  kept-skip {P} {r} {i} {j} m l f = marks-iff (λ x lx h. record { has = h.has; first = λ c lc lx' p z. tell x lx h c lc lx' p z (dec_lt c i) }) (λ x lx h. record { has = h.has; first = λ c lc. h.first c (omega arith) }) m
    where
      C : Cell → Type 0
      C = Holds W n s

      o : Obeys n C
      o = k.closed.obeys

      tell : (x : ℕ) → DeclaredItem n x → Kept C P i x → (c : ℕ) → c < j → c < x → P c → C (Same x c) → Dec (c < i) → ⊥
      tell x lx h c lc lx' p z (yes d) = h.first c d lx' p z
      tell x lx h c lc lx' p z (no d) = f c (omega arith) lc (m.whole c (omega arith) (record { has = p; first = λ e le lc' q w. h.first e le (omega arith) q (o.same-trans z w) }))

  -- b is kept, and all that are the same go
  pub kept_more : {P : ℕ → Type 0} {b : ℕ} {r rest t : List ℕ} → Marks n.items r (Kept (Holds W n s) P b) → RowHas r b → SameDropped (Holds W n s) b r rest → Marked true b rest t → Marks n.items t (Kept (Holds W n s) P (b + 1))
  kept_more {P} {b} {r} {rest} {t} m here d e = record { sound = λ x h. sound x (e.only x h); whole = λ x lx h. whole x lx h (ℕ_discrete x b) }
    where
      C : Cell → Type 0
      C = Holds W n s

      o : Obeys n C
      o = k.closed.obeys

      first_of : (x : ℕ) → Kept C P b x → (b < x → ¬ (C (Same b x))) → Kept C P (b + 1) x
      first_of x h f = record { has = h.has; first = λ c lc lx p z. tell c lc lx p z (ℕ_discrete c b) }
        where
          tell : (c : ℕ) → c < b + 1 → c < x → P c → C (Same x c) → Dec (c ≡ b) → ⊥
          tell c lc lx p z (yes q) = f (omega arith) (o.same-sym (subst (λ (v : ℕ). C (Same x v)) q z))
          tell c lc lx p z (no q) = h.first c (omega arith) lx p z

      sound : (x : ℕ) → RowHas rest x ⊎ ((true ≡ true) × (x ≡ b)) → (x < n.items) × Kept C P (b + 1) x
      sound x (inl h) = let y = m.sound x (d.left x h) in (y.0, first_of x y.1 (λ l. d.right x h))
      sound x (inr h) = let y = m.sound x (subst (λ (v : ℕ). RowHas r v) (sym h.1) here) in (y.0, first_of x y.1 (λ l. absurd (omega (arith, h.1))))

      apart : (x : ℕ) → DeclaredItem n x → Kept C P (b + 1) x → ¬ (x ≡ b) → ¬ (C (Same b x))
      apart x lx h f z = go (dec_lt x b)
        where
          go : Dec (x < b) → ⊥
          go (yes l) = (m.sound b here).1.first x l l h.has z
          go (no l) = h.first b (omega arith) (omega arith) (m.sound b here).1.has (o.same-sym z)

      whole : (x : ℕ) → DeclaredItem n x → Kept C P (b + 1) x → Dec (x ≡ b) → RowHas t x
      whole x lx h (yes q) = subst (λ (v : ℕ). RowHas t v) (sym q) (e.gets refl)
      whole x lx h (no q) = e.keeps x (d.keeps x (m.whole x lx (record { has = h.has; first = λ c lc. h.first c (omega arith) })) (apart x lx h q))
