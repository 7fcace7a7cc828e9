-- In a model with minimal equality an item's value is in a known value exactly if the cells say so of the item. Assumes nothing.
use Rattle.std.specs.Prelude.{◌≡◌, refl, ◌↔◌, Bool, true, false, List, [], ◌∷◌, ℕ, suc, length}
use Rattle.std.proofs.Math.Path.{sym}
use Rattle.std.proofs.Common.{ap, ◌∙◌, subst, ⊎_elim}
use Rattle.logic.specs.Number.{One, Distinct}
use Rattle.logic.specs.Number.One.{first, later}
use Rattle.logic.specs.Number.Distinct.{none as no_other, more as one_more}
use Rattle.logic.specs.laws.Number.{one-cases, one_none}
use Rattle.store.specs.declared.Counts.{Counts}
use Rattle.store.specs.Cell.{Cell, DeclaredItem}
use Rattle.store.specs.Cell.Cell.{In, Link}
use Rattle.rule.specs.declared.RoleUse.{RoleUse}
use Rattle.rule.specs.Breaks.{Path}
use Rattle.rule.specs.Expr.{Expr}
use Rattle.rule.specs.Expr.Expr.{name, top, neg, both, many, own, one}
use Rattle.rule.specs.Meaning.{LinkedWay, Linked, Different, Articles, HoldsOf}
use Rattle.rule.specs.Meaning.Different.{none, more}
use Rattle.paper.specs.Interpretation.{Interpretation, Minimal}
use Rattle.paper.specs.Known.{Named, KnownIn, KnownLink, KnownWay, KnownRole, AtLeast, KnownOf, Composed}
use Rattle.paper.specs.laws.Sound.{follows-satisfied}
use Rattle.paper.specs.laws.Canonical.{Settled, canonical, canonical-in, canonical-link, settled-obeys}
use Rattle.paper.proofs.laws.TheoremB.{canonical-minimal, minimal-value}

-- the items that an expression names are declared
unfoldable pub ItemsDeclared : Counts → Expr → Type 0
ItemsDeclared n (name c) = Unit {0}
ItemsDeclared n top = Unit {0}
ItemsDeclared n (neg c) = ItemsDeclared n c
ItemsDeclared n (both c d) = ItemsDeclared n c × ItemsDeclared n d
ItemsDeclared n (many k u c) = ItemsDeclared n c
ItemsDeclared n (own u) = Unit {0}
ItemsDeclared n (one a) = DeclaredItem n a.0

-- elements, no two equal, chosen for items
record Placed (I : Interpretation) (xs : List ℕ) : Type 0 where
  elements : List I.domain
  count : length elements ≡ length xs
  distinct : Distinct elements
  from : (d : I.domain) → One d elements → (b : ℕ) × One b xs × (I.item b ≡ d)

-- items, no two the same, chosen for elements
record Chosen (C : Cell → Type 0) (n : Counts) (I : Interpretation) (ds : List I.domain) : Type 0 where
  items : List ℕ
  count : length items ≡ length ds
  different : Different C items
  from : (b : ℕ) → One b items → DeclaredItem n b × One (I.item b) ds

module _ {n : Counts} {G C : Cell → Type 0} (k : Settled n G C) {I : Interpretation} (m : Minimal n G I) where
  -- ---- names

  -- an item's value is in that of a concept name
  pub known_in : {b x : ℕ} → DeclaredItem n x → KnownIn n (Minimal n G) I b (I.item x) ↔ C (In x b)
  known_in {b} {x} h = (
    λ v. (settled-obeys k).in-same ((minimal-value k m v.declared h).0 v.value) (canonical-in k v.declared (v.known (canonical k) (canonical-minimal k))),
    λ c. record { item = x; declared = h; value = refl; known = λ J u. (follows-satisfied u.model (k.sound (In x b) c)).condition },
  )

  -- two items' values are in that of a role name
  known-link : {r x y : ℕ} → DeclaredItem n x → DeclaredItem n y → KnownLink n (Minimal n G) I r (I.item x) (I.item y) ↔ C (Link r x y)
  known-link {r} {x} {y} h l = (
    λ v. (settled-obeys k).link-same ((minimal-value k m v.declared-from h).0 v.value-from) ((minimal-value k m v.declared-to l).0 v.value-to)
        (canonical-link k v.declared-from v.declared-to (v.known (canonical k) (canonical-minimal k))),
    λ c. record {
      from = x;
      to = y;
      declared-from = h;
      declared-to = l;
      value-from = refl;
      value-to = refl;
      known = λ J u. (follows-satisfied u.model (k.sound (Link r x y) c)).condition;
    },
  )

  known-way : (v : Bool) (r : ℕ) {x y : ℕ} → DeclaredItem n x → DeclaredItem n y → KnownWay n (Minimal n G) I v r (I.item x) (I.item y) ↔ LinkedWay C v r x y
  known-way false r h l = known-link h l
  known-way true r h l = known-link l h

  -- or of its inverse
  pub known-role : (u : RoleUse) {x y : ℕ} → DeclaredItem n x → DeclaredItem n y → KnownRole n (Minimal n G) I u (I.item x) (I.item y) ↔ Linked C u x y
  known-role u h l = known-way u.inverse u.role.0 h l

  -- ---- what is known is named

  way-named : (v : Bool) (r : ℕ) {d e : I.domain} → KnownWay n (Minimal n G) I v r d e → Named n I d × Named n I e
  way-named false r x = (record { name = x.from; declared = x.declared-from; value = x.value-from }, record { name = x.to; declared = x.declared-to; value = x.value-to })
  way-named true r x = (record { name = x.to; declared = x.declared-to; value = x.value-to }, record { name = x.from; declared = x.declared-from; value = x.value-from })

  pub role-named : (u : RoleUse) {d e : I.domain} → KnownRole n (Minimal n G) I u d e → Named n I d × Named n I e
  role-named u x = way-named u.inverse u.role.0 x

  pub of-named : (c : Expr) → ItemsDeclared n c → {d : I.domain} → KnownOf n (Minimal n G) I c d → Named n I d
  unfolding KnownOf ItemsDeclared
  of-named (name b) h x = record { name = x.item; declared = x.declared; value = x.value }
  of-named top h x = x
  of-named (neg c) h x = x.0
  of-named (both c e) h x = of-named c h.0 x.0
  of-named (many j u c) h x = x.0
  of-named (own u) h x = x.0
  of-named (one a) h x = record { name = a.0; declared = h; value = sym x.equal }

  -- ---- counting

  placed : {xs : List ℕ} → Different C xs → ((b : ℕ) → One b xs → DeclaredItem n b) → Placed I xs
  placed none f = record { elements = []; count = refl; distinct = no_other; from = λ d o. absurd (one_none o) }
  placed (more {x = x} {xs = xs} apart d) f = go (placed d (λ b o. f b (later o)))
    where
      go : Placed I xs → Placed I (x ∷ xs)
      go p = record {
        elements = I.item x ∷ p.elements;
        count = ap suc p.count;
        distinct = one_more (λ o. let r = p.from (I.item x) o in apart r.0 r.1 ((minimal-value k m (f x first) (f r.0 (later r.1))).0 (sym r.2))) p.distinct;
        from = λ e o. ⊎_elim (λ q. (x, first, sym q)) (λ w. let r = p.from e w in (r.0, later r.1, r.2)) (one-cases o);
      }

  chosen : {ds : List I.domain} → Distinct ds → ((d : I.domain) → One d ds → Named n I d) → Chosen C n I ds
  chosen no_other f = record { items = []; count = refl; different = none; from = λ b o. absurd (one_none o) }
  chosen (one_more {x = d} {xs = ds} apart r) f = go (f d first) (chosen r (λ e o. f e (later o)))
    where
      go : Named n I d → Chosen C n I ds → Chosen C n I (d ∷ ds)
      go v p = record {
        items = v.name ∷ p.items;
        count = ap suc p.count;
        different = more (λ y o s. apart (subst (λ (e : I.domain). One e ds) (sym ((minimal-value k m v.declared (p.from y o).0).1 s) ∙ v.value) (p.from y o).1)) p.different;
        from = λ b o. ⊎_elim (λ q. subst (λ (z : ℕ). DeclaredItem n z × One (I.item z) (d ∷ ds)) (sym q) (v.declared, subst (λ (e : I.domain). One e (d ∷ ds)) (sym v.value) first))
            (λ w. ((p.from b w).0, later (p.from b w).1))
            (one-cases o);
      }

  -- so many elements are so many articles
  articles-of : {j : ℕ} {S : I.domain → Type 1} {P : ℕ → Type 0} → ((d : I.domain) → S d → Named n I d) → ((b : ℕ) → DeclaredItem n b → S (I.item b) → P b) → AtLeast I j S → Articles C n j P
  articles-of names f a = record { items = c.items; count = c.count ∙ a.count; each = λ b o. let r = c.from b o in (r.0, f b r.0 (a.each (I.item b) r.1)); different = c.different }
    where
      c : Chosen C n I a.elements
      c = chosen a.distinct (λ d o. names d (a.each d o))

  -- and so many articles are so many elements
  elements-of : {j : ℕ} {S : I.domain → Type 1} {P : ℕ → Type 0} → ((b : ℕ) → DeclaredItem n b → P b → S (I.item b)) → Articles C n j P → AtLeast I j S
  elements-of {S = S} f a = record {
    elements = p.elements;
    count = p.count ∙ a.count;
    distinct = p.distinct;
    each = λ d o. let r = p.from d o in let e = a.each r.0 r.1 in subst S r.2 (f r.0 e.0 e.1);
  }
    where
      p : Placed I a.items
      p = placed a.different (λ b o. (a.each b o).0)

  -- ---- expressions

  itself : {x : ℕ} → DeclaredItem n x → Named n I (I.item x)
  itself {x} h = record { name = x; declared = h; value = refl }

  -- an item's value is in that of an expression exactly if the expression holds of the item
  pub known_of : (c : Expr) → ItemsDeclared n c → {x : ℕ} → DeclaredItem n x → KnownOf n (Minimal n G) I c (I.item x) ↔ HoldsOf C n c x
  unfolding KnownOf HoldsOf ItemsDeclared
  known_of (name b) i h = known_in h
  known_of top i h = (λ v. tt, λ v. itself h)
  known_of (neg c) i h = (λ v y. v.1 ((known_of c i h).1 y), λ f. (itself h, λ v. f ((known_of c i h).0 v)))
  known_of (both c e) i h = (λ v. ((known_of c i.0 h).0 v.0, (known_of e i.1 h).0 v.1), λ y. ((known_of c i.0 h).1 y.0, (known_of e i.1 h).1 y.1))
  known_of (many j u c) i h = (
    λ v. articles-of (λ d s. s.0) (λ b l s. ((known-role u h l).0 s.1, (known_of c i l).0 s.2)) v.1,
    λ a. (itself h, elements-of (λ b l p. (itself l, (known-role u h l).1 p.0, (known_of c i l).1 p.1)) a),
  )
  known_of (own u) i h = (λ v. (known-role u h h).0 v.1, λ y. (itself h, (known-role u h h).1 y))
  known_of (one a) i h = (λ v. (minimal-value k m h i).0 v.equal, λ y. record { equal = (minimal-value k m h i).1 y })

  -- ---- paths

  -- a path of items is a composition of values
  pub path-composed : (rs : List RoleUse) (x y : ℕ) → DeclaredItem n x → Path C n rs x y → Composed n (Minimal n G) I rs (I.item x) (I.item y)
  path-composed [] x y h e = record { equal = ap I.item e }
  path-composed (r ∷ rs) x y h p = (I.item p.0, (known-role r h p.1).1 p.2, path-composed rs p.0 y p.1 p.3)

  -- and the other way round, where the path has a step
  pub composed-path : (r : RoleUse) (rs : List RoleUse) {x y : ℕ} → DeclaredItem n x → DeclaredItem n y → Composed n (Minimal n G) I (r ∷ rs) (I.item x) (I.item y) → Path C n (r ∷ rs) x y
  composed-path r [] {x} {y} h l p = (y, l, (known-role r h l).0 (subst (λ (e : I.domain). KnownRole n (Minimal n G) I r (I.item x) e) p.2.equal p.1), refl)
  composed-path r (q ∷ rs) {x} {y} h l p = (
    v.name,
    v.declared,
    (known-role r h v.declared).0 (subst (λ (e : I.domain). KnownRole n (Minimal n G) I r (I.item x) e) (sym v.value) p.1),
    composed-path q rs v.declared l (subst (λ (e : I.domain). Composed n (Minimal n G) I (q ∷ rs) e (I.item y)) (sym v.value) p.2),
  )
    where
      v : Named n I p.0
      v = (role-named r p.1).1

  -- the last element of a composition is named
  pub composed-named : (r : RoleUse) (rs : List RoleUse) (d e : I.domain) → Composed n (Minimal n G) I (r ∷ rs) d e → Named n I e
  composed-named r [] d e p = let v = (role-named r p.1).1 in record { name = v.name; declared = v.declared; value = v.value ∙ p.2.equal }
  composed-named r (q ∷ rs) d e p = composed-named q rs p.0 e p.2
