-- The answers of a rule's query are what breaks the rule. Assumes nothing.
use Rattle.std.specs.Prelude.{◌≡◌, ◌↔◌, List, [], ◌∷◌, ℕ, zero, suc, ◌+◌, ◌≤◌, ◌<◌, length, get_or, take}
use Rattle.std.proofs.Math.Path.{refl, subst, subst₂}
use Rattle.std.proofs.Common.{sym, ◌∙◌, arith, length-take}
use Rattle.std.proofs.Math.Logic.{ite, if_pos, if_neg, by_cases}
use Rattle.std.proofs.Math.Decide.{ℕ_discrete}
use Rattle.store.specs.declared.Counts.{Counts}
use Rattle.store.specs.declared.Item.{Item}
use Rattle.store.specs.Cell.{Cell, DeclaredItem}
use Rattle.store.specs.Cell.Cell.{Same as SameCell}
use Rattle.rule.specs.declared.Head.{Head}
use Rattle.rule.specs.declared.Head.TheVariants.{Sub, RoleSub, Chain, Ref, Irr, Dis, In, Rel, NoRel, Same, Differ}
use Rattle.rule.specs.declared.Rule.{Rule}
use Rattle.rule.specs.declared.RoleUse.{RoleUse}
use Rattle.rule.specs.Second.{Second}
use Rattle.std.specs.Prelude.{None, Some}
use Rattle.rule.specs.declared.Slot.{Slot}
use Rattle.rule.specs.Form.{HeadFits, HeadWithin}
use Rattle.rule.specs.Expr.{Expr, expr_of}
use Rattle.rule.specs.Meaning.{Linked, HoldsOf}
use Rattle.rule.specs.Breaks.{Path, Breaks}
use Rattle.body.specs.Body.{first_item, Body, end, atom, not, eq, ◌⊕◌, flat, size}
use Rattle.sense.specs.Says.{Values, Met, val, meet, meets, Agree, InRange, HoldsAtom, All, Answer}
use Rattle.body.specs.Translation.{link, variables, of_expr, path, without, answers_of, body_of, query_of}
use Rattle.body.specs.Length.{head_length, item_limit}
use Rattle.sense.specs.Demand2.{Shown}
use Rattle.sense.specs.Demand2.Shown.{yes, alone, pair}
use Rattle.body.specs.laws.Body.{reads-back}
use Rattle.sense.specs.laws.Says.{Exists, meet-mono, mono, val-var, val-item, val-agree, split, join}
use Rattle.sense.specs.laws.Fresh.{Below, below_up, below-link, below-expr}
use Rattle.sense.proofs.laws.Means.{link-met, upd, upd_same, upd-range, upd-agree, link-to, link-from, means}
use Rattle.body.specs.laws.Length.{head-length, variables-le}

-- ---- values for x and y

two : ℕ → ℕ → Values
two x y v = ite (ℕ_discrete v 1) y x

two-0 : (x y : ℕ) → two x y 0 ≡ x
unfolding two
two-0 x y = if_neg (ℕ_discrete 0 1) (λ e. omega arith) y x

two-1 : (x y : ℕ) → two x y 1 ≡ y
unfolding two
two-1 x y = if_pos (ℕ_discrete 1 1) refl y x

two_in : (N : Counts) (x y : ℕ) → DeclaredItem N x → DeclaredItem N y → (v : ℕ) → DeclaredItem N (two x y v)
unfolding two
two_in N x y hx hy v = by_cases (ℕ_discrete v 1) (λ e. subst (DeclaredItem N) (sym (if_pos (ℕ_discrete v 1) e y x)) hy) (λ ne. subst (DeclaredItem N) (sym (if_neg (ℕ_discrete v 1) ne y x)) hx)

below_self : (k : ℕ) → Below (λ v. v < k) k
below_self k w h lt = h

v0 : (σ : Values) → val σ 0 ≡ σ 0
v0 σ = val-var σ 0 (omega arith)

v1 : (σ : Values) → val σ 1 ≡ σ 1
v1 σ = val-var σ 1 (omega arith)

no-term : (a : ℕ) (s : Met) → first_item + a < first_item → s (first_item + a)
no-term a s l = absurd (omega arith)

module _ (K : Cell → Type 0) (N : Counts) where
  -- ---- reading the words

  abbrev Start : ℕ → Body → List ℕ → Type 0
  Start k q xs = (σ : Values) × InRange K N σ × ((v : ℕ) → v < k → σ v ≡ get_or xs v 0) × All K N (λ v. v < k) σ q

  read : (k : ℕ) (q : Body) (xs : List ℕ) → Answer K N k (flat q) xs → Start k q xs
  read k q xs a = let e : a.body ≡ q = cc (reads-back q) in (a.values, a.range, a.answers, subst (All K N (λ v. v < k) a.values) e a.holds)

  unread : (k : ℕ) (q : Body) (xs : List ℕ) → length xs ≡ k → Start k q xs → Answer K N k (flat q) xs
  unread k q xs e s = record { body = q; says = reads-back q; values = s.0; range = s.1; count = e; answers = s.2; holds = s.3 }

  -- ---- by the number of answer variables: from what the query says of its values to its answers

  abbrev Result : ℕ → Body → (ℕ → Second → Type 0) → Type 0
  Result k q B = (xs : List ℕ) → Answer K N k (flat q) xs ↔ ((x : ℕ) × (s : Second) × Shown k x s xs × B x s)

  -- x alone
  abbrev Says1 : Body → (ℕ → Type 0) → Type 0
  Says1 q P = ((σ : Values) → InRange K N σ → All K N (λ v. v < 1) σ q → P (σ 0)) × ((x : ℕ) → DeclaredItem N x → P x → (σ : Values) × InRange K N σ × (σ 0 ≡ x) × All K N (λ v. v < 1) σ q)

  result-1 : (q : Body) (P : ℕ → Type 0) (B : ℕ → Second → Type 0) → ((x : ℕ) → DeclaredItem N x × P x → B x None) → ((x : ℕ) → B x None → DeclaredItem N x × P x) → Says1 q P → Result 1 q B
  result-1 q P B mk un h xs = (to xs, from xs)
    where
      to : (xs : List ℕ) → Answer K N 1 (flat q) xs → (x : ℕ) × (s : Second) × Shown 1 x s xs × B x s
      to [] a = absurd (omega (arith, a.count))
      to (x ∷ y ∷ l) a = absurd (omega (arith, a.count))
      to (x ∷ []) a =
          let s = read 1 q (x ∷ []) a in
          let e : s.0 0 ≡ x = s.2 0 (omega arith) in
          (x, None, alone, mk x (subst (DeclaredItem N) e (s.1 0), subst P e (h.0 s.0 s.1 s.3)))

      at : (x : ℕ) → B x None → Answer K N 1 (flat q) (x ∷ [])
      at x b =
          let p = un x b in
          let s = h.1 x p.0 p.1 in
          unread 1 q (x ∷ []) refl (s.0, s.1, (λ v l. first-value s.0 x s.2 v l), s.3)
        where
          first-value : (σ : Values) (x : ℕ) → σ 0 ≡ x → (v : ℕ) → v < 1 → σ v ≡ get_or (x ∷ []) v 0
          first-value σ x e zero l = e
          first-value σ x e (suc v) l = absurd (omega arith)

      from : (xs : List ℕ) → (x : ℕ) × (s : Second) × Shown 1 x s xs × B x s → Answer K N 1 (flat q) xs
      from xs (x, s, alone, b) = at x b

  -- x and y
  abbrev Says2 : Body → (ℕ → ℕ → Type 0) → Type 0
  Says2 q P = ((σ : Values) → InRange K N σ → All K N (λ v. v < 2) σ q → P (σ 0) (σ 1)) × ((x y : ℕ) → DeclaredItem N x → DeclaredItem N y → P x y → (σ : Values) × InRange K N σ × (σ 0 ≡ x) × (σ 1 ≡ y) × All K N (λ v. v < 2) σ q)

  result-2 : (q : Body) (P : ℕ → ℕ → Type 0) (B : ℕ → Second → Type 0) → ((x : ℕ) (y : Item) → DeclaredItem N x × DeclaredItem N y.0 × P x y.0 → B x (Some y)) → ((x : ℕ) (y : Item) → B x (Some y) → DeclaredItem N x × DeclaredItem N y.0 × P x y.0) → Says2 q P → Result 2 q B
  result-2 q P B mk un h xs = (to xs, from xs)
    where
      to : (xs : List ℕ) → Answer K N 2 (flat q) xs → (x : ℕ) × (s : Second) × Shown 2 x s xs × B x s
      to [] a = absurd (omega (arith, a.count))
      to (x ∷ []) a = absurd (omega (arith, a.count))
      to (x ∷ y ∷ z ∷ l) a = absurd (omega (arith, a.count))
      to (x ∷ y ∷ []) a =
          let s = read 2 q (x ∷ y ∷ []) a in
          let e : s.0 0 ≡ x = s.2 0 (omega arith) in
          let f : s.0 1 ≡ y = s.2 1 (omega arith) in
          (x, Some (record { 0 = y }), pair, mk x (record { 0 = y }) (subst (DeclaredItem N) e (s.1 0), subst (DeclaredItem N) f (s.1 1), subst₂ P e f (h.0 s.0 s.1 s.3)))

      at : (x : ℕ) (y : Item) → B x (Some y) → Answer K N 2 (flat q) (x ∷ y.0 ∷ [])
      at x y b =
          let p = un x y b in
          let s = h.1 x y.0 p.0 p.1 p.2 in
          unread 2 q (x ∷ y.0 ∷ []) refl (s.0, s.1, (λ v l. value s.0 x y.0 s.2 s.3 v l), s.4)
        where
          value : (σ : Values) (x y : ℕ) → σ 0 ≡ x → σ 1 ≡ y → (v : ℕ) → v < 2 → σ v ≡ get_or (x ∷ y ∷ []) v 0
          value σ x y e f zero l = e
          value σ x y e f (suc zero) l = f
          value σ x y e f (suc (suc v)) l = absurd (omega arith)

      from : (xs : List ℕ) → (x : ℕ) × (s : Second) × Shown 2 x s xs × B x s → Answer K N 2 (flat q) xs
      from xs (x, s, pair {y = y}, b) = at x y b

  -- a yes or no
  abbrev Says0 : Body → Type 0 → Type 0
  Says0 q P = ((σ : Values) → InRange K N σ → All K N (λ v. v < 0) σ q → P) × (P → (σ : Values) × InRange K N σ × All K N (λ v. v < 0) σ q)

  result-0 : (q : Body) (P : Type 0) (B : ℕ → Second → Type 0) (x : ℕ) (s : Second) → (P → B x s) → ((y : ℕ) (t : Second) → B y t → P) → Says0 q P → Result 0 q B
  result-0 q P B x s mk un h xs = (to xs, from xs)
    where
      to : (xs : List ℕ) → Answer K N 0 (flat q) xs → (x : ℕ) × (s : Second) × Shown 0 x s xs × B x s
      to [] a = let z = read 0 q [] a in (x, s, yes, mk (h.0 z.0 z.1 z.3))
      to (y ∷ l) a = absurd (omega (arith, a.count))

      from : (xs : List ℕ) → (x : ℕ) × (s : Second) × Shown 0 x s xs × B x s → Answer K N 0 (flat q) xs
      from xs (y, t, yes, b) = let z = h.1 (un y t b) in unread 0 q [] refl (z.0, z.1, (λ v l. absurd (omega arith)), z.2)

  -- ---- one atom, plain and in a not

  not-link-to : (R : RoleUse) (u w : ℕ) (s : Met) (σ : Values) → InRange K N σ → ¬ (Exists K N s σ (atom (link R u w) end)) → ¬ (Linked K R (val σ u) (val σ w))
  not-link-to R u w s σ r h l = h (σ, r, (λ _ _. refl), (link-from K N R u w σ l, tt))

  not-link-from : (R : RoleUse) (u w : ℕ) (s : Met) (σ : Values) → (u < first_item → s u) → (w < first_item → s w) → ¬ (Linked K R (val σ u) (val σ w)) → ¬ (Exists K N s σ (atom (link R u w) end))
  not-link-from R u w s σ ku kw h e = h (subst₂ (Linked K R) (sym (val-agree s σ e.0 u e.2 ku)) (sym (val-agree s σ e.0 w e.2 kw)) (link-to K N R u w e.0 e.3.0))

  -- x and y linked, and the same with values for x and y
  xy-to : (R : RoleUse) (σ : Values) → HoldsAtom K N σ (link R 0 1) → Linked K R (σ 0) (σ 1)
  xy-to R σ h = subst₂ (Linked K R) (v0 σ) (v1 σ) (link-to K N R 0 1 σ h)

  xy-from : (R : RoleUse) (σ : Values) → Linked K R (σ 0) (σ 1) → HoldsAtom K N σ (link R 0 1)
  xy-from R σ h = link-from K N R 0 1 σ (subst₂ (Linked K R) (sym (v0 σ)) (sym (v1 σ)) h)

  xy-not-to : (R : RoleUse) (s : Met) (σ : Values) → InRange K N σ → ¬ (Exists K N s σ (atom (link R 0 1) end)) → ¬ (Linked K R (σ 0) (σ 1))
  xy-not-to R s σ r h l = not-link-to R 0 1 s σ r h (subst₂ (Linked K R) (sym (v0 σ)) (sym (v1 σ)) l)

  xy-not-from : (R : RoleUse) (s : Met) (σ : Values) → s 0 → s 1 → ¬ (Linked K R (σ 0) (σ 1)) → ¬ (Exists K N s σ (atom (link R 0 1) end))
  xy-not-from R s σ k0 k1 h = not-link-from R 0 1 s σ (λ _. k0) (λ _. k1) (λ l. h (subst₂ (Linked K R) (v0 σ) (v1 σ) l))

  -- ---- paths

  path-to : (r : RoleUse) (rs : List RoleUse) (t v : ℕ) (s : Met) (σ : Values) → InRange K N σ → v + length rs ≤ first_item → All K N s σ (path (r ∷ rs) t v) → Path K N (r ∷ rs) (val σ t) (σ 1)
  path-to r [] t v s σ i le h = (σ 1, i 1, subst (Linked K r (val σ t)) (v1 σ) (link-to K N r t 1 σ h.0), refl)
  path-to r (q ∷ rs) t v s σ i le h =
      let e : val σ v ≡ σ v = val-var σ v (omega arith) in
      (val σ v, subst (DeclaredItem N) (sym e) (i v), link-to K N r t v σ h.0, path-to q rs v (v + 1) (meet (link r t v) s) σ i (omega arith) h.1)

  path-from : (r : RoleUse) (rs : List RoleUse) (t v : ℕ) (s : Met) (σ : Values) → InRange K N σ → Below s v → (t < first_item → s t) → s 1 → v + length rs ≤ first_item → Path K N (r ∷ rs) (val σ t) (σ 1) → Exists K N s σ (path (r ∷ rs) t v)
  path-from r [] t v s σ i b k k1 le h = (σ, i, (λ _ _. refl), (link-from K N r t 1 σ (subst (Linked K r (val σ t)) (h.3 ∙ sym (v1 σ)) h.2), tt))
  path-from r (q ∷ rs) t v s σ i b k k1 le h =
      let lt : v < first_item = omega arith in
      let s₁ : Met = meet (link r t v) s in
      let τ₀ : Values = upd σ v h.0 in
      let a₀ : Agree s σ τ₀ = upd-agree K N s σ v h.0 b lt in
      let b₁ : Below s₁ (v + 1) = below-link r t v s (v + 1) (λ l. let z = b t (k l) l in omega arith) (λ _. omega arith) (below_up s v (v + 1) (omega arith) b) in
      let e₀ : h.0 ≡ val τ₀ v = sym (val-var τ₀ v lt ∙ upd_same σ v h.0) in
      let j : Path K N (q ∷ rs) (val τ₀ v) (τ₀ 1) = subst₂ (Path K N (q ∷ rs)) e₀ (a₀ 1 k1) h.3 in
      let f : Exists K N s₁ τ₀ (path (q ∷ rs) v (v + 1)) = path-from q rs v (v + 1) s₁ τ₀ (upd-range K N σ v h.0 i h.1) b₁ (λ _. link-met r t v s) (meet-mono (link r t v) s 1 k1) (omega arith) j in
      let a₁ : Agree s σ f.0 = λ w m. a₀ w m ∙ f.2 w (meet-mono (link r t v) s w m) in
      (f.0, f.1, a₁, (link-from K N r t v f.0 (subst₂ (Linked K r) (val-agree s σ f.0 t a₁ k) (e₀ ∙ val-agree s₁ τ₀ f.0 v f.2 (λ _. link-met r t v s)) h.2), f.3))

  -- ---- what each query says

  says-ref : (R : RoleUse) → Says1 (without (link R 0 0)) (λ x. ¬ (Linked K R x x))
  says-ref R = (
    (λ σ r h l. not-link-to R 0 0 (λ v. v < 1) σ r h.0 (subst₂ (Linked K R) (sym (v0 σ)) (sym (v0 σ)) l)),
    (λ x hx h. ((λ _. x), (λ _. hx), refl, (not-link-from R 0 0 (λ v. v < 1) (λ _. x) (λ _. omega arith) (λ _. omega arith) (λ l. h (subst₂ (Linked K R) (v0 (λ _. x)) (v0 (λ _. x)) l)), tt))),
  )

  says-irr : (R : RoleUse) → Says1 (atom (link R 0 0) end) (λ x. Linked K R x x)
  says-irr R = (
    (λ σ r h. subst₂ (Linked K R) (v0 σ) (v0 σ) (link-to K N R 0 0 σ h.0)),
    (λ x hx h. ((λ _. x), (λ _. hx), refl, (link-from K N R 0 0 (λ _. x) (subst₂ (Linked K R) (sym (v0 (λ _. x))) (sym (v0 (λ _. x))) h), tt))),
  )

  says-sub : (c d : Expr) → 1 + variables c + variables d ≤ first_item → Says1 (of_expr c 0 1 ⊕ not (of_expr d 0 (1 + variables c)) end) (λ x. HoldsOf K N c x × ¬ (HoldsOf K N d x))
  says-sub c d le = (to, from)
    where
      s₀ : Met
      s₀ = λ v. v < 1

      s₁ : Met
      s₁ = meets (of_expr c 0 1) s₀

      b₁ : Below s₁ (1 + variables c)
      b₁ = below-expr c 0 1 s₀ (below_self 1) (λ _. omega arith)

      k₀ : 0 < first_item → s₀ 0
      k₀ l = omega arith

      k₁ : 0 < first_item → s₁ 0
      k₁ l = mono (of_expr c 0 1) s₀ 0 (omega arith)

      to : (σ : Values) → InRange K N σ → All K N s₀ σ (of_expr c 0 1 ⊕ not (of_expr d 0 (1 + variables c)) end) → HoldsOf K N c (σ 0) × ¬ (HoldsOf K N d (σ 0))
      to σ r h =
          let z = split K N (of_expr c 0 1) (not (of_expr d 0 (1 + variables c)) end) s₀ σ h in (
            subst (HoldsOf K N c) (v0 σ) ((means K N c 0 1 s₀ σ r (below_self 1) k₀ (omega arith)).0 z.0),
            (λ q. z.1.0 ((means K N d 0 (1 + variables c) s₁ σ r b₁ k₁ le).1 (subst (HoldsOf K N d) (sym (v0 σ)) q))),
          )

      from : (x : ℕ) → DeclaredItem N x → HoldsOf K N c x × ¬ (HoldsOf K N d x) → (σ : Values) × InRange K N σ × (σ 0 ≡ x) × All K N s₀ σ (of_expr c 0 1 ⊕ not (of_expr d 0 (1 + variables c)) end)
      from x hx h =
          let f : Exists K N s₀ (λ _. x) (of_expr c 0 1) = (means K N c 0 1 s₀ (λ _. x) (λ _. hx) (below_self 1) k₀ (omega arith)).1 (subst (HoldsOf K N c) (sym (v0 (λ _. x))) h.0) in
          let e : f.0 0 ≡ x = sym (f.2 0 (omega arith)) in (
            f.0,
            f.1,
            e,
            join K N (of_expr c 0 1) (not (of_expr d 0 (1 + variables c)) end) s₀ f.0 f.3
                ((λ g. h.1 (subst (HoldsOf K N d) (sym (val-agree s₁ f.0 g.0 0 g.2 k₁) ∙ v0 f.0 ∙ e) ((means K N d 0 (1 + variables c) s₁ g.0 g.1 b₁ k₁ le).0 g.3))), tt),
          )

  says-role-sub : (R Q : RoleUse) → Says2 (atom (link R 0 1) (without (link Q 0 1))) (λ x y. Linked K R x y × ¬ (Linked K Q x y))
  says-role-sub R Q = (
    (λ σ r h. (xy-to R σ h.0, xy-not-to Q (meet (link R 0 1) (λ v. v < 2)) σ r h.1.0)),
    (λ x y hx hy h. (
      two x y,
      two_in N x y hx hy,
      two-0 x y,
      two-1 x y,
      (
        xy-from R (two x y) (subst₂ (Linked K R) (sym (two-0 x y)) (sym (two-1 x y)) h.0),
        (xy-not-from Q (meet (link R 0 1) (λ v. v < 2)) (two x y) (meet-mono (link R 0 1) (λ v. v < 2) 0 (omega arith)) (meet-mono (link R 0 1) (λ v. v < 2) 1 (omega arith)) (λ l. h.1 (subst₂ (Linked K Q) (two-0 x y) (two-1 x y) l)), tt),
      ),
    )),
  )

  says-dis : (R Q : RoleUse) → Says2 (atom (link R 0 1) (atom (link Q 0 1) end)) (λ x y. Linked K R x y × Linked K Q x y)
  says-dis R Q = (
    (λ σ r h. (xy-to R σ h.0, xy-to Q σ h.1.0)),
    (λ x y hx hy h. (
      two x y,
      two_in N x y hx hy,
      two-0 x y,
      two-1 x y,
      (
        xy-from R (two x y) (subst₂ (Linked K R) (sym (two-0 x y)) (sym (two-1 x y)) h.0),
        (xy-from Q (two x y) (subst₂ (Linked K Q) (sym (two-0 x y)) (sym (two-1 x y)) h.1), tt),
      ),
    )),
  )

  says-chain : (r : RoleUse) (rs : List RoleUse) (Q : RoleUse) → 2 + length rs ≤ first_item → Says2 (path (r ∷ rs) 0 2 ⊕ without (link Q 0 1)) (λ x y. Path K N (r ∷ rs) x y × ¬ (Linked K Q x y))
  says-chain r rs Q le = (to, from)
    where
      s₀ : Met
      s₀ = λ v. v < 2

      s₁ : Met
      s₁ = meets (path (r ∷ rs) 0 2) s₀

      to : (σ : Values) → InRange K N σ → All K N s₀ σ (path (r ∷ rs) 0 2 ⊕ without (link Q 0 1)) → Path K N (r ∷ rs) (σ 0) (σ 1) × ¬ (Linked K Q (σ 0) (σ 1))
      to σ i h =
          let z = split K N (path (r ∷ rs) 0 2) (without (link Q 0 1)) s₀ σ h in
          (subst (λ x. Path K N (r ∷ rs) x (σ 1)) (v0 σ) (path-to r rs 0 2 s₀ σ i le z.0), xy-not-to Q s₁ σ i z.1.0)

      from : (x y : ℕ) → DeclaredItem N x → DeclaredItem N y → Path K N (r ∷ rs) x y × ¬ (Linked K Q x y) → (σ : Values) × InRange K N σ × (σ 0 ≡ x) × (σ 1 ≡ y) × All K N s₀ σ (path (r ∷ rs) 0 2 ⊕ without (link Q 0 1))
      from x y hx hy h =
          let g : Exists K N s₀ (two x y) (path (r ∷ rs) 0 2) = path-from r rs 0 2 s₀ (two x y) (two_in N x y hx hy) (below_self 2) (λ _. omega arith) (omega arith) le (subst₂ (Path K N (r ∷ rs)) (sym (v0 (two x y) ∙ two-0 x y)) (sym (two-1 x y)) h.0) in
          let e : g.0 0 ≡ x = sym (g.2 0 (omega arith)) ∙ two-0 x y in
          let f : g.0 1 ≡ y = sym (g.2 1 (omega arith)) ∙ two-1 x y in (
            g.0,
            g.1,
            e,
            f,
            join K N (path (r ∷ rs) 0 2) (without (link Q 0 1)) s₀ g.0 g.3
                (xy-not-from Q s₁ g.0 (mono (path (r ∷ rs) 0 2) s₀ 0 (omega arith)) (mono (path (r ∷ rs) 0 2) s₀ 1 (omega arith)) (λ l. h.1 (subst₂ (Linked K Q) e f l)), tt),
          )

  says-in : (c : Expr) (a : ℕ) → DeclaredItem N a → variables c ≤ first_item → Says0 (not (of_expr c (first_item + a) 0) end) (¬ (HoldsOf K N c a))
  says-in c a ha le = (
    (λ σ r h q. h.0 ((means K N c (first_item + a) 0 (λ v. v < 0) σ r (below_self 0) (no-term a (λ v. v < 0)) (omega arith)).1 (subst (HoldsOf K N c) (sym (val-item σ a)) q))),
    (λ h. ((λ _. a), (λ _. ha), ((λ e. h (subst (HoldsOf K N c) (val-item e.0 a) ((means K N c (first_item + a) 0 (λ v. v < 0) e.0 e.1 (below_self 0) (no-term a (λ v. v < 0)) (omega arith)).0 e.3))), tt))),
  )

  says-rel : (R : RoleUse) (a b : ℕ) → DeclaredItem N a → Says0 (without (link R (first_item + a) (first_item + b))) (¬ (Linked K R a b))
  says-rel R a b ha = (
    (λ σ r h l. not-link-to R (first_item + a) (first_item + b) (λ v. v < 0) σ r h.0 (subst₂ (Linked K R) (sym (val-item σ a)) (sym (val-item σ b)) l)),
    (λ h. ((λ _. a), (λ _. ha), (not-link-from R (first_item + a) (first_item + b) (λ v. v < 0) (λ _. a) (no-term a (λ v. v < 0)) (no-term b (λ v. v < 0)) (λ l. h (subst₂ (Linked K R) (val-item (λ _. a) a) (val-item (λ _. a) b) l)), tt))),
  )

  says-no-rel : (R : RoleUse) (a b : ℕ) → DeclaredItem N a → Says0 (atom (link R (first_item + a) (first_item + b)) end) (Linked K R a b)
  says-no-rel R a b ha = (
    (λ σ r h. subst₂ (Linked K R) (val-item σ a) (val-item σ b) (link-to K N R (first_item + a) (first_item + b) σ h.0)),
    (λ h. ((λ _. a), (λ _. ha), (link-from K N R (first_item + a) (first_item + b) (λ _. a) (subst₂ (Linked K R) (sym (val-item (λ _. a) a)) (sym (val-item (λ _. a) b)) h), tt))),
  )

  says_same : (a b : ℕ) → DeclaredItem N a → Says0 (without (eq (first_item + a) (first_item + b))) (¬ (K (SameCell a b)))
  says_same a b ha = (
    (λ σ r h l. h.0 (σ, r, (λ _ _. refl), (subst₂ (λ x y. K (SameCell x y)) (sym (val-item σ a)) (sym (val-item σ b)) l, tt))),
    (λ h. ((λ _. a), (λ _. ha), ((λ e. h (subst₂ (λ x y. K (SameCell x y)) (val-item e.0 a) (val-item e.0 b) e.3.0)), tt))),
  )

  says-differ : (a b : ℕ) → DeclaredItem N a → Says0 (atom (eq (first_item + a) (first_item + b)) end) (K (SameCell a b))
  says-differ a b ha = (
    (λ σ r h. subst₂ (λ x y. K (SameCell x y)) (val-item σ a) (val-item σ b) h.0),
    (λ h. ((λ _. a), (λ _. ha), (subst₂ (λ x y. K (SameCell x y)) (sym (val-item (λ _. a) a)) (sym (val-item (λ _. a) b)) h, tt))),
  )

  -- ---- the theorem, for every rule word

  chain-result : (n : ℕ) (ns : List Slot) (k : ℕ) (r1 r2 r3 r4 r : RoleUse) → 2 ≤ k → Result 2 (path (take k (r1 ∷ r2 ∷ r3 ∷ r4 ∷ [])) 0 2 ⊕ without (link r 0 1)) (Breaks K N (record { head = Chain k r1 r2 r3 r4 r; len = n; nodes = ns }))
  chain-result n ns zero r1 r2 r3 r4 r l = absurd (omega arith)
  chain-result n ns (suc k) r1 r2 r3 r4 r l =
      let rs : List RoleUse = take k (r2 ∷ r3 ∷ r4 ∷ []) in
      result-2 (path (r1 ∷ rs) 0 2 ⊕ without (link r 0 1)) (λ x y. Path K N (r1 ∷ rs) x y × ¬ (Linked K r x y)) (Breaks K N (record { head = Chain (suc k) r1 r2 r3 r4 r; len = n; nodes = ns }))
      (λ x y p. p) (λ x y b. b) (says-chain r1 rs r (omega (arith, length-take k (r2 ∷ r3 ∷ r4 ∷ []))))

  answers-head : (n : ℕ) (ns : List Slot) (h : Head) → HeadFits n h → HeadWithin N h → size (body_of ns h) ≤ item_limit → Result (answers_of h) (body_of ns h) (Breaks K N (record { head = h; len = n; nodes = ns }))
  unfolding body_of head_length
  answers-head n ns (Sub c d) f w le =
      let C : Expr = expr_of ns c in
      let D : Expr = expr_of ns d in
      result-1 (of_expr C 0 1 ⊕ not (of_expr D 0 (1 + variables C)) end) (λ x. HoldsOf K N C x × ¬ (HoldsOf K N D x)) (Breaks K N (record { head = Sub c d; len = n; nodes = ns })) (λ x p. p) (λ x b. b)
      (says-sub C D (omega (arith, le, head-length n ns (Sub c d) f, variables-le C, variables-le D)))
  answers-head n ns (RoleSub r s) f w le =
      result-2 (atom (link r 0 1) (without (link s 0 1))) (λ x y. Linked K r x y × ¬ (Linked K s x y)) (Breaks K N (record { head = RoleSub r s; len = n; nodes = ns })) (λ x y p. p) (λ x y b. b) (says-role-sub r s)
  answers-head n ns (Chain k r1 r2 r3 r4 r) f w le = chain-result n ns k r1 r2 r3 r4 r f.0
  answers-head n ns (Ref r) f w le = result-1 (without (link r 0 0)) (λ x. ¬ (Linked K r x x)) (Breaks K N (record { head = Ref r; len = n; nodes = ns })) (λ x p. p) (λ x b. b) (says-ref r)
  answers-head n ns (Irr r) f w le = result-1 (atom (link r 0 0) end) (λ x. Linked K r x x) (Breaks K N (record { head = Irr r; len = n; nodes = ns })) (λ x p. p) (λ x b. b) (says-irr r)
  answers-head n ns (Dis r s) f w le =
      result-2 (atom (link r 0 1) (atom (link s 0 1) end)) (λ x y. Linked K r x y × Linked K s x y) (Breaks K N (record { head = Dis r s; len = n; nodes = ns })) (λ x y p. p) (λ x y b. b) (says-dis r s)
  answers-head n ns (In c a) f w le =
      let C : Expr = expr_of ns c in
      result-0 (not (of_expr C (first_item + a.0) 0) end) (¬ (HoldsOf K N C a.0)) (Breaks K N (record { head = In c a; len = n; nodes = ns })) a.0 None (λ p. (w, (refl, p))) back
      (says-in C a.0 w (omega (arith, le, head-length n ns (In c a) f, variables-le C)))
    where
      back : (y : ℕ) (t : Second) → Breaks K N (record { head = In c a; len = n; nodes = ns }) y t → ¬ (HoldsOf K N (expr_of ns c) a.0)
      back y None b = subst (λ z. ¬ (HoldsOf K N (expr_of ns c) z)) b.1.0 b.1.1
      back y (Some z) b = absurd b.2
  answers-head n ns (Rel r a b) f w le = result-0 (without (link r (first_item + a.0) (first_item + b.0))) (¬ (Linked K r a.0 b.0)) (Breaks K N (record { head = Rel r a b; len = n; nodes = ns })) a.0 (Some b) (λ p. (w.1, w.2, (refl, refl, p))) back (says-rel r a.0 b.0 w.1)
    where
      back : (y : ℕ) (t : Second) → Breaks K N (record { head = Rel r a b; len = n; nodes = ns }) y t → ¬ (Linked K r a.0 b.0)
      back y None q = absurd q.1
      back y (Some z) q = subst₂ (λ i j. ¬ (Linked K r i j)) q.2.0 q.2.1 q.2.2
  answers-head n ns (NoRel r a b) f w le = result-0 (atom (link r (first_item + a.0) (first_item + b.0)) end) (Linked K r a.0 b.0) (Breaks K N (record { head = NoRel r a b; len = n; nodes = ns })) a.0 (Some b) (λ p. (w.1, w.2, (refl, refl, p))) back (says-no-rel r a.0 b.0 w.1)
    where
      back : (y : ℕ) (t : Second) → Breaks K N (record { head = NoRel r a b; len = n; nodes = ns }) y t → Linked K r a.0 b.0
      back y None q = absurd q.1
      back y (Some z) q = subst₂ (Linked K r) q.2.0 q.2.1 q.2.2
  answers-head n ns (Same a b) f w le = result-0 (without (eq (first_item + a.0) (first_item + b.0))) (¬ (K (SameCell a.0 b.0))) (Breaks K N (record { head = Same a b; len = n; nodes = ns })) a.0 (Some b) (λ p. (w.0, w.1, (refl, refl, p))) back (says_same a.0 b.0 w.0)
    where
      back : (y : ℕ) (t : Second) → Breaks K N (record { head = Same a b; len = n; nodes = ns }) y t → ¬ (K (SameCell a.0 b.0))
      back y None q = absurd q.1
      back y (Some z) q = subst₂ (λ i j. ¬ (K (SameCell i j))) q.2.0 q.2.1 q.2.2
  answers-head n ns (Differ a b) f w le = result-0 (atom (eq (first_item + a.0) (first_item + b.0)) end) (K (SameCell a.0 b.0)) (Breaks K N (record { head = Differ a b; len = n; nodes = ns })) a.0 (Some b) (λ p. (w.0, w.1, (refl, refl, p))) back (says-differ a.0 b.0 w.0)
    where
      back : (y : ℕ) (t : Second) → Breaks K N (record { head = Differ a b; len = n; nodes = ns }) y t → K (SameCell a.0 b.0)
      back y None q = absurd q.1
      back y (Some z) q = subst₂ (λ i j. K (SameCell i j)) q.2.0 q.2.1 q.2.2

  -- the answers of a rule's query are what breaks the rule
  pub answers-rule : (u : Rule) → HeadFits u.len u.head → HeadWithin N u.head → size (query_of u) ≤ item_limit
      → (xs : List ℕ) → Answer K N (answers_of u.head) (flat (query_of u)) xs ↔ ((x : ℕ) × (s : Second) × Shown (answers_of u.head) x s xs × Breaks K N u x s)
  answers-rule u f w le = answers-head u.len u.nodes u.head f w le
