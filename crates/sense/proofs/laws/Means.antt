-- An expression's query holds exactly where the expression does. Assumes nothing.
use Rattle.std.specs.Prelude.{◌≡◌, refl, Bool, true, false, length}
use Rattle.std.proofs.Common.{sym, ap, ap₂, ◌∙◌, subst₂, inl, inr, suc-mul, arith}
use Rattle.std.proofs.Math.Path.{subst}
use Rattle.std.proofs.Math.Logic.{ite, if_pos, if_neg, by_cases}
use mathlib.Core.List.{List, [], ◌∷◌, map}
use Prim.Native.Nat.{ℕ, zero, suc, ◌+◌, ◌*◌, ◌≤◌, ◌<◌}
use Rattle.std.proofs.Math.Decide.{ℕ_discrete}
use Rattle.logic.specs.Number.{One}
use Rattle.logic.specs.Number.One.{first, later}
use Rattle.store.specs.declared.Counts.{Counts}
use Rattle.store.specs.Cell.{Cell, DeclaredItem}
use Rattle.store.specs.Cell.Cell.{Same}
use Rattle.rule.specs.declared.RoleUse.{RoleUse}
use Rattle.rule.specs.Expr.{Expr}
use Rattle.rule.specs.Expr.Expr.{name, top, neg, both, many, own, one}
use Rattle.rule.specs.Meaning.{LinkedWay, Linked, Different, HoldsOf}
use Rattle.body.specs.Body.{first_item, eq, Body, ◌⊕◌}
use Rattle.sense.specs.Says.{Values, Met, val, meet, meets, Agree, InRange, HoldsAtom, All}
use Rattle.body.specs.Translation.{link_way, link, variables, turns, news, apart, pairs, of_expr}
use Rattle.sense.specs.laws.Says.{Exists, meets-⊕, meet-mono, mono, val-var, val-item, val-agree, frame, split, join}
use Rattle.sense.specs.laws.Fresh.{EachOf, Below, below_up, below-link, below-expr}

known-below : (s : Met) (t v : ℕ) → Below s v → (t < first_item → s t) → t < first_item → t < v
known-below s t v b k lt = b t (k lt) lt

met-way : (i : Bool) (r t v : ℕ) (s : Met) → meet (link_way i r t v) s v
met-way false r t v s = inr (inl refl)
met-way true r t v s = inl refl

pub link-met : (R : RoleUse) (t v : ℕ) (s : Met) → meet (link R t v) s v
link-met R t v s = met-way R.inverse R.role.0 t v s

unfoldable pub upd : Values → ℕ → ℕ → Values
upd σ v b w = ite (ℕ_discrete w v) b (σ w)

pub upd_same : (σ : Values) (v b : ℕ) → upd σ v b v ≡ b
unfolding upd
upd_same σ v b = if_pos (ℕ_discrete v v) refl b (σ v)

upd_other : (σ : Values) (v b w : ℕ) → ((w ≡ v) → ⊥) → σ w ≡ upd σ v b w
unfolding upd
upd_other σ v b w ne = sym (if_neg (ℕ_discrete w v) ne b (σ w))

each-known-up : (ys : List ℕ) (s s' : Met) → ((w : ℕ) → s w → s' w) → EachOf (λ z. (z < first_item) × s z) ys → EachOf (λ z. (z < first_item) × s' z) ys
each-known-up [] s s' f h = tt
each-known-up (y ∷ ys) s s' f h = ((h.0.0, f y h.0.1), each-known-up ys s s' f h.1)

news-met : (c : ℕ → ℕ → Body) (R : RoleUse) (u n t v : ℕ) (s : Met) → v + n * (u + 1) ≤ first_item → EachOf (λ z. (z < first_item) × meets (turns c R (u + 1) n t v) s z) (news (u + 1) n v)
news-met c R u zero t v s le = tt
news-met c R u (suc n) t v s le = (
  (omega (arith, suc-mul n (u + 1)), mono (c v (v + 1) ⊕ turns c R (u + 1) n t (v + (u + 1))) (meet (link R t v) s) v (link-met R t v s)),
  subst (λ (m : Met). EachOf (λ z. (z < first_item) × m z) (news (u + 1) n (v + (u + 1)))) (sym (meets-⊕ (c v (v + 1)) (turns c R (u + 1) n t (v + (u + 1))) (meet (link R t v) s))) (news-met c R u n t (v + (u + 1)) (meets (c v (v + 1)) (meet (link R t v) s)) (omega (arith, suc-mul n (u + 1)))),
)

length-map-news : (f : ℕ → ℕ) (u n v : ℕ) → length (map f (news u n v)) ≡ n
length-map-news f u zero v = refl
length-map-news f u (suc n) v = ap suc (length-map-news f u n (v + u))

-- no two of the list are the same
abbrev Apart : (ℕ → ℕ → Type 0) → List ℕ → Type 0
Apart P [] = Unit {0}
Apart P (b ∷ bs) = EachOf (P b) bs × Apart P bs

each-one : (P : ℕ → Type 0) (bs : List ℕ) → EachOf P bs → (b : ℕ) → One b bs → P b
each-one P [] h x o = elim o [ ]
each-one P (b ∷ bs) h _ first = h.0
each-one P (b ∷ bs) h x (later o) = each-one P bs h.1 x o

one_each : (P : ℕ → Type 0) (bs : List ℕ) → ((b : ℕ) → One b bs → P b) → EachOf P bs
one_each P [] h = tt
one_each P (b ∷ bs) h = (h b first, one_each P bs (λ x o. h x (later o)))

apart-different : (K : Cell → Type 0) (bs : List ℕ) → Apart (λ b c. ¬ (K (Same b c))) bs → Different K bs
apart-different K [] h = Different.none
apart-different K (b ∷ bs) h = Different.more (each-one (λ c. ¬ (K (Same b c))) bs h.0) (apart-different K bs h.1)

different-apart : (K : Cell → Type 0) (bs : List ℕ) → Different K bs → Apart (λ b c. ¬ (K (Same b c))) bs
different-apart K _ Different.none = tt
different-apart K _ (Different.more {x = x} {xs = xs} h d) = (one_each (λ c. ¬ (K (Same x c))) xs h, different-apart K xs d)

module _ (K : Cell → Type 0) (N : Counts) where
  pub upd-range : (σ : Values) (v b : ℕ) → InRange K N σ → DeclaredItem N b → InRange K N (upd σ v b)
  upd-range σ v b r hb w = by_cases (ℕ_discrete w v) (λ e. subst (λ x. DeclaredItem N x) (sym (ap (upd σ v b) e ∙ upd_same σ v b)) hb) (λ ne. subst (λ x. DeclaredItem N x) (upd_other σ v b w ne) (r w))

  pub upd-agree : (s : Met) (σ : Values) (v b : ℕ) → Below s v → v < first_item → Agree s σ (upd σ v b)
  upd-agree s σ v b be lt w m = upd_other σ v b w (λ e. let h = be w m (subst (λ x. x < first_item) (sym e) lt) in omega arith)

  way-to : (i : Bool) (r s t : ℕ) (σ : Values) → HoldsAtom K N σ (link_way i r s t) → LinkedWay K i r (val σ s) (val σ t)
  way-to false r s t σ h = h
  way-to true r s t σ h = h

  pub link-to : (R : RoleUse) (s t : ℕ) (σ : Values) → HoldsAtom K N σ (link R s t) → Linked K R (val σ s) (val σ t)
  link-to R s t σ h = way-to R.inverse R.role.0 s t σ h

  way-from : (i : Bool) (r s t : ℕ) (σ : Values) → LinkedWay K i r (val σ s) (val σ t) → HoldsAtom K N σ (link_way i r s t)
  way-from false r s t σ h = h
  way-from true r s t σ h = h

  pub link-from : (R : RoleUse) (s t : ℕ) (σ : Values) → Linked K R (val σ s) (val σ t) → HoldsAtom K N σ (link R s t)
  link-from R s t σ h = way-from R.inverse R.role.0 s t σ h

  -- the nots between the new variables
  apart-to : (y : ℕ) (zs : List ℕ) (s : Met) (σ : Values) → InRange K N σ → y < first_item → EachOf (λ z. (z < first_item) × s z) zs
      → All K N s σ (apart y zs) → EachOf (λ b. ¬ (K (Same (σ y) b))) (map σ zs)
  apart-to y [] s σ r hy hz h = tt
  apart-to y (z ∷ zs) s σ r hy hz h = (
    (λ m. h.0 (σ, r, (λ w _. refl), (subst₂ (λ a b. K (Same a b)) (sym (val-var σ y hy)) (sym (val-var σ z hz.0.0)) m, tt))),
    apart-to y zs (meet (eq y z) s) σ r hy (each-known-up zs s (meet (eq y z) s) (meet-mono (eq y z) s) hz.1) h.1,
  )

  apart_from : (y : ℕ) (zs : List ℕ) (s : Met) (σ : Values) → y < first_item → s y → EachOf (λ z. (z < first_item) × s z) zs
      → EachOf (λ b. ¬ (K (Same (σ y) b))) (map σ zs) → All K N s σ (apart y zs)
  apart_from y [] s σ hy my hz h = tt
  apart_from y (z ∷ zs) s σ hy my hz h = (
    (λ e. h.0 (subst₂ (λ a b. K (Same a b)) (val-var e.0 y hy ∙ sym (e.2 y my)) (val-var e.0 z hz.0.0 ∙ sym (e.2 z hz.0.1)) e.3.0)),
    apart_from y zs (meet (eq y z) s) σ hy (meet-mono (eq y z) s y my) (each-known-up zs s (meet (eq y z) s) (meet-mono (eq y z) s) hz.1) h.1,
  )

  pairs-to : (ys : List ℕ) (s : Met) (σ : Values) → InRange K N σ → EachOf (λ z. (z < first_item) × s z) ys → All K N s σ (pairs ys) → Apart (λ b c. ¬ (K (Same b c))) (map σ ys)
  pairs-to [] s σ r hy h = tt
  pairs-to (y ∷ ys) s σ r hy h =
      let z = split K N (apart y ys) (pairs ys) s σ h in
      (apart-to y ys s σ r hy.0.0 hy.1 z.0, pairs-to ys (meets (apart y ys) s) σ r (each-known-up ys s (meets (apart y ys) s) (mono (apart y ys) s) hy.1) z.1)

  pairs-from : (ys : List ℕ) (s : Met) (σ : Values) → EachOf (λ z. (z < first_item) × s z) ys → Apart (λ b c. ¬ (K (Same b c))) (map σ ys) → All K N s σ (pairs ys)
  pairs-from [] s σ hy h = tt
  pairs-from (y ∷ ys) s σ hy h =
      join K N (apart y ys) (pairs ys) s σ (apart_from y ys s σ hy.0.0 hy.0.1 hy.1 h.0)
      (pairs-from ys (meets (apart y ys) s) σ (each-known-up ys s (meets (apart y ys) s) (mono (apart y ys) s) hy.1) h.1)

  -- c compiles what P says, and takes u variables
  abbrev Means : (ℕ → Type 0) → (ℕ → ℕ → Body) → ℕ → Type 1
  Means P c u = (t v : ℕ) (s : Met) (σ : Values) → InRange K N σ → Below s v → (t < first_item → s t) → v + u ≤ first_item
      → (All K N s σ (c t v) → P (val σ t)) × (P (val σ t) → Exists K N s σ (c t v))

  abbrev Meeting : (ℕ → ℕ → Body) → ℕ → Type 1
  Meeting c u = (t v : ℕ) (s : Met) → Below s v → (t < first_item → t < v) → Below (meets (c t v) s) (v + u)

  abbrev Fit : (ℕ → Type 0) → RoleUse → ℕ → ℕ → Type 0
  Fit P R a b = DeclaredItem N b × (Linked K R a b × P b)

  module _ (P : ℕ → Type 0) (c : ℕ → ℕ → Body) (u : ℕ) (ih : Means P c u) (hb : Meeting c u) (R : RoleUse) where
    turn_below : (t v : ℕ) (s : Met) → Below s v → (t < first_item → s t) → Below (meet (link R t v) s) (v + 1)
    turn_below t v s b k = below-link R t v s (v + 1) (λ l. let h = known-below s t v b k l in omega arith) (λ _. omega arith) (below_up s v (v + 1) (omega arith) b)

    after-below : (t v : ℕ) (s : Met) → Below s v → (t < first_item → s t) → Below (meets (c v (v + 1)) (meet (link R t v) s)) (v + (u + 1))
    after-below t v s b k = below_up _ (v + 1 + u) _ (omega arith) (hb v (v + 1) (meet (link R t v) s) (turn_below t v s b k) (λ _. omega arith))

    after-mono : (t v : ℕ) (s : Met) (w : ℕ) → s w → meets (c v (v + 1)) (meet (link R t v) s) w
    after-mono t v s w m = mono (c v (v + 1)) (meet (link R t v) s) w (meet-mono (link R t v) s w m)

    turns-to : (n t v : ℕ) (s : Met) (σ : Values) → InRange K N σ → Below s v → (t < first_item → s t) → v + n * (u + 1) ≤ first_item
        → All K N s σ (turns c R (u + 1) n t v) → EachOf (Fit P R (val σ t)) (map σ (news (u + 1) n v))
    turns-to zero t v s σ r b k le h = tt
    turns-to (suc n) t v s σ r b k le h =
        let s₁ : Met = meet (link R t v) s in
        let lt : v < first_item = omega (arith, suc-mul n (u + 1)) in
        let e : val σ v ≡ σ v = val-var σ v lt in
        let z = split K N (c v (v + 1)) (turns c R (u + 1) n t (v + (u + 1))) s₁ σ h.1 in
        let p : P (val σ v) = (ih v (v + 1) s₁ σ r (turn_below t v s b k) (λ _. link-met R t v s) (omega (arith, suc-mul n (u + 1)))).0 z.0 in (
          (r v, (subst (λ x. Linked K R (val σ t) x) e (link-to R t v σ h.0), subst P e p)),
          turns-to n t (v + (u + 1)) (meets (c v (v + 1)) s₁) σ r (after-below t v s b k) (λ l. after-mono t v s t (k l)) (omega (arith, suc-mul n (u + 1))) z.1,
        )

    abbrev Found : ℕ → ℕ → ℕ → Met → Values → List ℕ → Type 0
    Found n t v s σ bs = (τ : Values) × InRange K N τ × Agree s σ τ × All K N s τ (turns c R (u + 1) n t v) × (map τ (news (u + 1) n v) ≡ bs)

    turns-from : (n : ℕ) (bs : List ℕ) (t v : ℕ) (s : Met) (σ : Values) → InRange K N σ → Below s v → (t < first_item → s t) → v + n * (u + 1) ≤ first_item
        → length bs ≡ n → EachOf (Fit P R (val σ t)) bs → Found n t v s σ bs
    turns-from zero [] t v s σ r b k le e h = (σ, r, (λ w _. refl), tt, refl)
    turns-from zero (x ∷ bs) t v s σ r b k le e h = absurd (omega arith)
    turns-from (suc n) [] t v s σ r b k le e h = absurd (omega arith)
    turns-from (suc n) (x ∷ bs) t v s σ r b k le e h =
        let s₁ : Met = meet (link R t v) s in
        let s₂ : Met = meets (c v (v + 1)) s₁ in
        let lt : v < first_item = omega (arith, suc-mul n (u + 1)) in
        let τ₀ : Values = upd σ v x in
        let a₀ : Agree s σ τ₀ = upd-agree s σ v x b lt in
        let x₀ : τ₀ v ≡ x = upd_same σ v x in
        let f₁ : Exists K N s₁ τ₀ (c v (v + 1)) = (ih v (v + 1) s₁ τ₀ (upd-range σ v x r h.0.0) (turn_below t v s b k) (λ _. link-met R t v s) (omega (arith, suc-mul n (u + 1)))).1 (subst P (sym (val-var τ₀ v lt ∙ x₀)) h.0.1.1) in
        let τ₁ : Values = f₁.0 in
        let a₁ : Agree s σ τ₁ = λ w m. a₀ w m ∙ f₁.2 w (meet-mono (link R t v) s w m) in
        let f₂ : Found n t (v + (u + 1)) s₂ τ₁ bs = turns-from n bs t (v + (u + 1)) s₂ τ₁ f₁.1 (after-below t v s b k) (λ l. after-mono t v s t (k l)) (omega (arith, suc-mul n (u + 1))) (omega arith) (subst (λ a. EachOf (Fit P R a) bs) (val-agree s σ τ₁ t a₁ k) h.1) in
        let τ₂ : Values = f₂.0 in
        let a₂ : Agree s σ τ₂ = λ w m. a₁ w m ∙ f₂.2 w (after-mono t v s w m) in
        let x₂ : τ₂ v ≡ x = sym (f₁.2 v (link-met R t v s) ∙ f₂.2 v (mono (c v (v + 1)) s₁ v (link-met R t v s))) ∙ x₀ in (
          τ₂,
          f₂.1,
          a₂,
          (
            link-from R t v τ₂ (subst₂ (Linked K R) (val-agree s σ τ₂ t a₂ k) (sym (val-var τ₂ v lt ∙ x₂)) h.0.1.0),
            join K N (c v (v + 1)) (turns c R (u + 1) n t (v + (u + 1))) s₁ τ₂ (frame K N (c v (v + 1)) s₁ τ₁ τ₂ f₂.2 f₁.3) f₂.3,
          ),
          ap₂ (λ y ys. y ∷ ys) x₂ f₂.4,
        )

  -- an expression's query holds exactly where the expression does
  pub means : (e : Expr) → Means (HoldsOf K N e) (of_expr e) (variables e)
  unfolding HoldsOf
  means (name A) t v s σ r b k le = ((λ h. h.0), (λ h. (σ, r, (λ w _. refl), (h, tt))))
  means top t v s σ r b k le = ((λ h. tt), (λ h. (σ, r, (λ w _. refl), tt)))
  means (neg C) t v s σ r b k le = (
    (λ h p. h.0 ((means C t v s σ r b k le).1 p)),
    (λ h. (σ, r, (λ w _. refl), ((λ e. h (subst (HoldsOf K N C) (sym (val-agree s σ e.0 t e.2 k)) ((means C t v s e.0 e.1 b k le).0 e.3))), tt))),
  )
  means (both C D) t v s σ r b k le =
      let s₁ : Met = meets (of_expr C t v) s in
      let b₁ : Below s₁ (v + variables C) = below-expr C t v s b (known-below s t v b k) in
      let k₁ : t < first_item → s₁ t = λ l. mono (of_expr C t v) s t (k l) in (
        (λ h. let z = split K N (of_expr C t v) (of_expr D t (v + variables C)) s σ h in
            ((means C t v s σ r b k (omega arith)).0 z.0, (means D t (v + variables C) s₁ σ r b₁ k₁ (omega arith)).0 z.1)),
        (λ h. let f₁ : Exists K N s σ (of_expr C t v) = (means C t v s σ r b k (omega arith)).1 h.0 in
            let f₂ : Exists K N s₁ f₁.0 (of_expr D t (v + variables C)) = (means D t (v + variables C) s₁ f₁.0 f₁.1 b₁ k₁ (omega arith)).1 (subst (HoldsOf K N D) (val-agree s σ f₁.0 t f₁.2 k) h.1) in
            (f₂.0, f₂.1, (λ w m. f₁.2 w m ∙ f₂.2 w (mono (of_expr C t v) s w m)), join K N (of_expr C t v) (of_expr D t (v + variables C)) s f₂.0 (frame K N (of_expr C t v) s f₁.0 f₂.0 f₂.2 f₁.3) f₂.3)),
      )
  means (many n R C) t v s σ r b k le =
      let q : Body = turns (of_expr C) R (variables C + 1) n t v in
      let ys : List ℕ = news (variables C + 1) n v in
      let km : EachOf (λ z. (z < first_item) × meets q s z) ys = news-met (of_expr C) R (variables C) n t v s le in (
        (λ h. let z = split K N q (pairs ys) s σ h in
            record { items = map σ ys; count = length-map-news σ (variables C + 1) n v; each = each-one (Fit (HoldsOf K N C) R (val σ t)) (map σ ys) (turns-to (HoldsOf K N C) (of_expr C) (variables C) (means C) (below-expr C) R n t v s σ r b k le z.0); different = apart-different K (map σ ys) (pairs-to ys (meets q s) σ r km z.1) }),
        (λ h. let f : Found (HoldsOf K N C) (of_expr C) (variables C) (means C) (below-expr C) R n t v s σ h.items = turns-from (HoldsOf K N C) (of_expr C) (variables C) (means C) (below-expr C) R n h.items t v s σ r b k le h.count (one_each (Fit (HoldsOf K N C) R (val σ t)) h.items h.each) in
            (f.0, f.1, f.2, join K N q (pairs ys) s f.0 f.3 (pairs-from ys (meets q s) f.0 km (subst (Apart (λ b c. ¬ (K (Same b c)))) (sym f.4) (different-apart K h.items h.different))))),
      )
  means (own R) t v s σ r b k le = ((λ h. link-to R t t σ h.0), (λ h. (σ, r, (λ w _. refl), (link-from R t t σ h, tt))))
  means (one a) t v s σ r b k le = ((λ h. subst (λ b. K (Same (val σ t) b)) (val-item σ a.0) h.0), (λ h. (σ, r, (λ w _. refl), (subst (λ b. K (Same (val σ t) b)) (sym (val-item σ a.0)) h, tt))))
