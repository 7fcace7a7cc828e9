-- Laws of writing a whole query, a rule word after the other. Assumes nothing.
use Rattle.std.specs.Prelude.{◌≡◌, refl, List, [], ◌∷◌, ◌++◌, ℕ, zero, suc, ◌+◌, ◌*◌, ◌-◌, ◌≤◌, length, take}
use Rattle.std.proofs.Common.{sym, ap, ap₂, subst, subst₂, ◌∙◌, arith, length-append, length-take}
use Rattle.std.proofs.lemmas.List.Edits.{sets}
use Rattle.store.specs.declared.Item.{Item}
use Rattle.rule.specs.declared.Head.{Head}
use Rattle.rule.specs.declared.Head.TheVariants.{Sub, RoleSub, Chain, Ref, Irr, Dis, In, Rel, NoRel, Same, Differ}
use Rattle.rule.specs.declared.RoleUse.{RoleUse}
use Rattle.rule.specs.declared.Slot.{Slot}
use Rattle.rule.specs.Expr.{Expr, expr_of}
use Rattle.body.specs.declared.Cursor.{Cursor}
use Rattle.body.specs.Body.{first_item, Body, end, atom, not, ◌⊕◌, flat}
use Rattle.body.specs.Translation.{link, variables, of_expr, path, without, body_of}
use Rattle.body.specs.Length.{length_of, head_length, item_limit}
use Rattle.body.specs.own.Writing.{SmallRole, Wrote, RoomFor, Roomy, Written, RoomyPath, Pathed}
use Rattle.query.specs.own.Filling.{SmallHead, Spacious, Filled}
use Rattle.body.specs.laws.Body.{flat-⊕, length-flat}
use Rattle.body.specs.laws.Length.{size-path, variables-le}
use Rattle.body.specs.laws.Writing.{then, wrote-length, expr-words, link-words}

abbrev opening : List ℕ
opening = 4 ∷ 0 ∷ 0 ∷ 0 ∷ []

abbrev closing : List ℕ
closing = 5 ∷ 0 ∷ 0 ∷ 0 ∷ []

-- the cursor at the start
abbrev start : ℕ → Cursor
start k = record { next = k; place = 0 }

-- ---- a head that is known

pub spacious-as : (l : List ℕ) (ns : List Slot) (h g : Head) → h ≡ g → Spacious l ns h → Spacious l ns g
spacious-as l ns h g e s = subst (Spacious l ns) e s

pub filled-as : (l l₁ : List ℕ) (ns : List Slot) (h g : Head) → h ≡ g → Filled l l₁ ns g → Filled l l₁ ns h
filled-as l l₁ ns h g e f = subst (Filled l l₁ ns) (sym e) f

-- a head that has no roots
abbrev pub Rootless : Head → Type 0
Rootless (Sub c d) = ⊥
Rootless (RoleSub r s) = Unit {0}
Rootless (Chain k r1 r2 r3 r4 r) = Unit {0}
Rootless (Ref r) = Unit {0}
Rootless (Irr r) = Unit {0}
Rootless (Dis r s) = Unit {0}
Rootless (In c a) = ⊥
Rootless (Rel r a b) = Unit {0}
Rootless (NoRel r a b) = Unit {0}
Rootless (Same a b) = Unit {0}
Rootless (Differ a b) = Unit {0}

-- what it asks and leaves does not depend on the nodes
free-length : (ns : List Slot) (h : Head) → Rootless h → head_length ns h ≡ head_length [] h
unfolding head_length
free-length ns (Sub c d) f = absurd f
free-length ns (RoleSub r s) f = refl
free-length ns (Chain k r1 r2 r3 r4 r) f = refl
free-length ns (Ref r) f = refl
free-length ns (Irr r) f = refl
free-length ns (Dis r s) f = refl
free-length ns (In c a) f = absurd f
free-length ns (Rel r a b) f = refl
free-length ns (NoRel r a b) f = refl
free-length ns (Same a b) f = refl
free-length ns (Differ a b) f = refl

free-small : (ns : List Slot) (h : Head) → Rootless h → SmallHead ns h → SmallHead [] h
free-small ns (Sub c d) f s = absurd f
free-small ns (RoleSub r q) f s = s
free-small ns (Chain k r1 r2 r3 r4 r) f s = s
free-small ns (Ref r) f s = s
free-small ns (Irr r) f s = s
free-small ns (Dis r q) f s = s
free-small ns (In c a) f s = absurd f
free-small ns (Rel r a b) f s = s
free-small ns (NoRel r a b) f s = s
free-small ns (Same a b) f s = s
free-small ns (Differ a b) f s = s

free-body : (ns : List Slot) (h : Head) → Rootless h → body_of ns h ≡ body_of [] h
unfolding body_of
free-body ns (Sub c d) f = absurd f
free-body ns (RoleSub r q) f = refl
free-body ns (Chain k r1 r2 r3 r4 r) f = refl
free-body ns (Ref r) f = refl
free-body ns (Irr r) f = refl
free-body ns (Dis r q) f = refl
free-body ns (In c a) f = absurd f
free-body ns (Rel r a b) f = refl
free-body ns (NoRel r a b) f = refl
free-body ns (Same a b) f = refl
free-body ns (Differ a b) f = refl

pub spacious-free : (l : List ℕ) (ns : List Slot) (h g : Head) → Rootless g → h ≡ g → Spacious l ns h → Spacious l [] g
spacious-free l ns h g f e s =
    let z : Spacious l ns g = spacious-as l ns h g e s in
    let n : head_length ns g ≡ head_length [] g = free-length ns g f in
    record { fits = subst (λ k. 4 * k ≤ length l) n z.fits; long = subst (λ k. k ≤ item_limit) n z.long; small = free-small ns g f z.small }

pub filled-free : (l l₁ : List ℕ) (ns : List Slot) (h g : Head) → Rootless g → h ≡ g → Filled l l₁ [] g → Filled l l₁ ns h
filled-free l l₁ ns h g f e w = filled-as l l₁ ns h g e (record { room = w.room ∙ ap (λ q. sets l 0 (flat q)) (sym (free-body ns g f)) })

-- ---- one atom

-- a role atom of k items at the start
pub atom-room : (l : List ℕ) (ns : List Slot) (h : Head) (c : Cursor) (u : RoleUse) (j k : ℕ) → c ≡ start j → k ≤ head_length ns h → SmallRole u → Spacious l ns h → RoomFor l c k u
atom-room l ns h c u j k e n r s = rw e (record { fits = omega (arith, s.fits); small = r })

pub same-room : (l : List ℕ) (ns : List Slot) (c : Cursor) (a b : Item) → c ≡ start 0 → Spacious l ns (Same a b) → c.place + 12 ≤ length l
unfolding head_length
same-room l ns c a b e s = rw e (let h = s.fits in omega arith)

pub differ-room : (l : List ℕ) (ns : List Slot) (c : Cursor) (a b : Item) → c ≡ start 0 → Spacious l ns (Differ a b) → c.place + 4 ≤ length l
unfolding head_length
differ-room l ns c a b e s = rw e (let h = s.fits in omega arith)

-- what was written at the start is the query
pub at-start : {l l₁ : List ℕ} {ns : List Slot} {h : Head} {c r : Cursor} {k n : ℕ} {ws : List ℕ} → c ≡ start k → flat (body_of ns h) ≡ ws → Wrote l l₁ c r ws n → Filled l l₁ ns h
at-start {l} e f w = record { room = w.room ∙ ap₂ (λ p vs. sets l p vs) (ap (λ d. d.place) e) (sym f) }

-- the same of a query q of two items' terms
pub items-filled : {l l₁ : List ℕ} {ns : List Slot} {h : Head} {c r : Cursor} {k n s t : ℕ} (q : ℕ → ℕ → Body) (a b : Item) → c ≡ start k → s ≡ first_item + a.0 → t ≡ first_item + b.0 → body_of ns h ≡ q (first_item + a.0) (first_item + b.0) → Wrote l l₁ c r (flat (q s t)) n → Filled l l₁ ns h
items-filled q a b e f g y w = at-start e (ap flat (y ∙ ap₂ q (sym f) (sym g))) w

-- ---- two parts

-- after the first part there is room for the second
after : (l l₁ : List ℕ) (c c₁ : Cursor) (k : ℕ) (vs : List ℕ) (n m : ℕ) → c ≡ start k → Wrote l l₁ c c₁ vs n → length vs + m ≤ length l → c₁.place + m ≤ length l₁
after l l₁ c c₁ k vs n m e w h = let z : c.place ≡ 0 = ap (λ d. d.place) e in let p = w.place in omega (arith, wrote-length l l₁ c c₁ vs n w)

-- a query of the parts p and q
pub two-filled : {l l₁ l₂ : List ℕ} {ns : List Slot} {h : Head} {c c₁ c₂ : Cursor} {k m n : ℕ} (p q : Body) → c ≡ start k → body_of ns h ≡ p ⊕ q → Wrote l l₁ c c₁ (flat p) m → Wrote l₁ l₂ c₁ c₂ (flat q) n → Filled l l₂ ns h
two-filled p q e y w x = at-start e (ap flat y ∙ flat-⊕ p q) (then _ _ _ _ _ _ (flat p) (flat q) _ _ w x)

pub role-sub-rest : (l l₁ : List ℕ) (ns : List Slot) (c c₁ : Cursor) (u v : RoleUse) → c ≡ start 2 → Spacious l ns (RoleSub u v) → Wrote l l₁ c c₁ (flat (atom (link u 0 1) end)) 0 → RoomFor l₁ c₁ 3 v
unfolding head_length
role-sub-rest l l₁ ns c c₁ u v e s w = record { fits = after l l₁ c c₁ 2 (flat (atom (link u 0 1) end)) 0 12 e w (let h = s.fits in omega (arith, link-words u 0 1)); small = s.small.1 }

pub dis-rest : (l l₁ : List ℕ) (ns : List Slot) (c c₁ : Cursor) (u v : RoleUse) → c ≡ start 2 → Spacious l ns (Dis u v) → Wrote l l₁ c c₁ (flat (atom (link u 0 1) end)) 0 → RoomFor l₁ c₁ 1 v
unfolding head_length
dis-rest l l₁ ns c c₁ u v e s w = record { fits = after l l₁ c c₁ 2 (flat (atom (link u 0 1) end)) 0 4 e w (let h = s.fits in omega (arith, link-words u 0 1)); small = s.small.1 }

-- ---- a chain

abbrev roles_of : ℕ → RoleUse → RoleUse → RoleUse → RoleUse → List RoleUse
roles_of k r1 r2 r3 r4 = take k (r1 ∷ r2 ∷ r3 ∷ r4 ∷ [])

roles-length : (k : ℕ) (r1 r2 r3 r4 : RoleUse) → k ≤ 4 → length (roles_of k r1 r2 r3 r4) ≡ k
roles-length k r1 r2 r3 r4 h = omega (arith, length-take k (r1 ∷ r2 ∷ r3 ∷ r4 ∷ []))

pub chain-room : (l : List ℕ) (ns : List Slot) (c : Cursor) (k : ℕ) (r1 r2 r3 r4 r : RoleUse) → c ≡ start 2 → Spacious l ns (Chain k r1 r2 r3 r4 r) → RoomyPath l c (take k (r1 ∷ r2 ∷ r3 ∷ r4 ∷ []))
unfolding head_length
chain-room l ns c k r1 r2 r3 r4 r e s =
    let b = s.small.1 in let h = s.fits in let n = roles-length k r1 r2 r3 r4 b in
    rw e (record { fits = omega arith; vars = omega arith; small = s.small.2 })

path-words : (k t v : ℕ) (r1 r2 r3 r4 : RoleUse) → 2 ≤ k → k ≤ 4 → length (flat (path (take k (r1 ∷ r2 ∷ r3 ∷ r4 ∷ [])) t v)) ≡ 4 * k
path-words zero t v r1 r2 r3 r4 l h = absurd (omega arith)
path-words (suc k) t v r1 r2 r3 r4 l h =
    let rs : List RoleUse = take k (r2 ∷ r3 ∷ r4 ∷ []) in
    omega (arith, length-flat (path (r1 ∷ rs) t v), size-path r1 rs t v, length-take k (r2 ∷ r3 ∷ r4 ∷ []))

pub chain-rest : (l l₁ : List ℕ) (ns : List Slot) (c c₁ : Cursor) (k : ℕ) (r1 r2 r3 r4 r : RoleUse) → c ≡ start 2 → Spacious l ns (Chain k r1 r2 r3 r4 r) → Pathed l l₁ c c₁ 0 (take k (r1 ∷ r2 ∷ r3 ∷ r4 ∷ [])) → RoomFor l₁ c₁ 3 r
unfolding head_length
chain-rest l l₁ ns c c₁ k r1 r2 r3 r4 r e s p =
    let a = s.small.0 in let b = s.small.1 in let h = s.fits in
    record { fits = after l l₁ c c₁ 2 (flat (path (roles_of k r1 r2 r3 r4) 0 c.next)) (length (roles_of k r1 r2 r3 r4) - 1) 12 e p.wrote (omega (arith, path-words k 0 c.next r1 r2 r3 r4 a b)); small = s.small.3 }

pub chain-filled : (l l₁ l₂ : List ℕ) (ns : List Slot) (c c₁ c₂ : Cursor) (k : ℕ) (r1 r2 r3 r4 r : RoleUse) → c ≡ start 2 → Pathed l l₁ c c₁ 0 (take k (r1 ∷ r2 ∷ r3 ∷ r4 ∷ [])) → Wrote l₁ l₂ c₁ c₂ (flat (without (link r 0 1))) 0 → Filled l l₂ ns (Chain k r1 r2 r3 r4 r)
unfolding body_of
chain-filled l l₁ l₂ ns c c₁ c₂ k r1 r2 r3 r4 r e p x =
    let q : Body = path (roles_of k r1 r2 r3 r4) 0 2 in
    let m : ℕ = length (roles_of k r1 r2 r3 r4) - 1 in
    let w : Wrote l l₁ c c₁ (flat q) m = subst (λ v. Wrote l l₁ c c₁ (flat (path (roles_of k r1 r2 r3 r4) 0 v)) m) (ap (λ d. d.next) e) p.wrote in
    two-filled q (without (link r 0 1)) e refl w x

-- ---- an expression of an item

pub in-open : (l : List ℕ) (ns : List Slot) (c : Cursor) (i : ℕ) (a : Item) → c ≡ start 0 → Spacious l ns (In i a) → c.place + 4 ≤ length l
unfolding head_length
in-open l ns c i a e s = rw e (let h = s.fits in omega arith)

pub in_inner : (l l₁ : List ℕ) (ns : List Slot) (c c₁ : Cursor) (i : ℕ) (a : Item) → c ≡ start 0 → Spacious l ns (In i a) → Wrote l l₁ c c₁ opening 0 → Roomy l₁ c₁ (expr_of ns i)
unfolding head_length
in_inner l l₁ ns c c₁ i a e s w =
    let C : Expr = expr_of ns i in
    let h = s.fits in let k = s.long in let q = w.next in let z : c.next ≡ 0 = ap (λ d. d.next) e in
    record { fits = after l l₁ c c₁ 0 opening 0 (4 * length_of C) e w (omega arith); vars = omega (arith, variables-le C); small = s.small.0 }

pub in-close : (l l₁ l₂ : List ℕ) (ns : List Slot) (c c₁ c₂ : Cursor) (i t : ℕ) (a : Item) → c ≡ start 0 → Spacious l ns (In i a) → Wrote l l₁ c c₁ opening 0 → Written l₁ l₂ c₁ c₂ t (expr_of ns i) → c₂.place + 4 ≤ length l₂
unfolding head_length
in-close l l₁ l₂ ns c c₁ c₂ i t a e s w d =
    let C : Expr = expr_of ns i in
    let ws : List ℕ = flat (of_expr C t c₁.next) in
    let h = s.fits in
    after l l₂ c c₂ 0 (opening ++ ws) (0 + variables C) 4 e (then l l₁ l₂ c c₁ c₂ opening ws 0 (variables C) w d.wrote) (omega (arith, expr-words C t c₁.next))

pub in-filled : (l l₁ l₂ l₃ : List ℕ) (ns : List Slot) (c c₁ c₂ c₃ : Cursor) (i t : ℕ) (a : Item) → c ≡ start 0 → t ≡ first_item + a.0 → Wrote l l₁ c c₁ opening 0 → Written l₁ l₂ c₁ c₂ t (expr_of ns i) → Wrote l₂ l₃ c₂ c₃ closing 0 → Filled l l₃ ns (In i a)
unfolding body_of
in-filled l l₁ l₂ l₃ ns c c₁ c₂ c₃ i t a e f w d x =
    let C : Expr = expr_of ns i in
    let nx : c₁.next ≡ 0 = (let z : c.next ≡ 0 = ap (λ q. q.next) e in let q = w.next in omega arith) in
    let ws : List ℕ = flat (of_expr C (first_item + a.0) 0) in
    let d' : Wrote l₁ l₂ c₁ c₂ ws (variables C) = subst₂ (λ s v. Wrote l₁ l₂ c₁ c₂ (flat (of_expr C s v)) (variables C)) f nx d.wrote in
    at-start e refl (then l l₁ l₃ c c₁ c₃ opening (ws ++ closing) 0 (variables C + 0) w (then l₁ l₂ l₃ c₁ c₂ c₃ ws closing (variables C) 0 d' x))

-- ---- two expressions of x

pub sub-left : (l : List ℕ) (ns : List Slot) (c : Cursor) (i j : ℕ) → c ≡ start 1 → Spacious l ns (Sub i j) → Roomy l c (expr_of ns i)
unfolding head_length
sub-left l ns c i j e s =
    let h = s.fits in let k = s.long in
    rw e (record { fits = omega arith; vars = omega (arith, variables-le (expr_of ns i)); small = s.small.0 })

pub sub_open : (l l₁ : List ℕ) (ns : List Slot) (c c₁ : Cursor) (i j : ℕ) → c ≡ start 1 → Spacious l ns (Sub i j) → Written l l₁ c c₁ 0 (expr_of ns i) → c₁.place + 4 ≤ length l₁
unfolding head_length
sub_open l l₁ ns c c₁ i j e s d =
    let C : Expr = expr_of ns i in
    let h = s.fits in
    after l l₁ c c₁ 1 (flat (of_expr C 0 c.next)) (variables C) 4 e d.wrote (omega (arith, expr-words C 0 c.next))

pub sub-right : (l l₁ l₂ : List ℕ) (ns : List Slot) (c c₁ c₂ : Cursor) (i j : ℕ) → c ≡ start 1 → Spacious l ns (Sub i j) → Written l l₁ c c₁ 0 (expr_of ns i) → Wrote l₁ l₂ c₁ c₂ opening 0 → Roomy l₂ c₂ (expr_of ns j)
unfolding head_length
sub-right l l₁ l₂ ns c c₁ c₂ i j e s d w =
    let C : Expr = expr_of ns i in
    let D : Expr = expr_of ns j in
    let ws : List ℕ = flat (of_expr C 0 c.next) in
    let h = s.fits in let k = s.long in let p = d.wrote.next in let q = w.next in let z : c.next ≡ 1 = ap (λ x. x.next) e in
    record {
      fits = after l l₂ c c₂ 1 (ws ++ opening) (variables C + 0) (4 * length_of D) e (then l l₁ l₂ c c₁ c₂ ws opening (variables C) 0 d.wrote w) (omega (arith, expr-words C 0 c.next, length-append ws opening));
      vars = omega (arith, variables-le C, variables-le D);
      small = s.small.1;
    }

pub sub-close : (l l₁ l₂ l₃ : List ℕ) (ns : List Slot) (c c₁ c₂ c₃ : Cursor) (i j : ℕ) → c ≡ start 1 → Spacious l ns (Sub i j) → Written l l₁ c c₁ 0 (expr_of ns i) → Wrote l₁ l₂ c₁ c₂ opening 0 → Written l₂ l₃ c₂ c₃ 0 (expr_of ns j) → c₃.place + 4 ≤ length l₃
unfolding head_length
sub-close l l₁ l₂ l₃ ns c c₁ c₂ c₃ i j e s d w f =
    let C : Expr = expr_of ns i in
    let D : Expr = expr_of ns j in
    let vs : List ℕ = flat (of_expr C 0 c.next) in
    let ws : List ℕ = flat (of_expr D 0 c₂.next) in
    let h = s.fits in
    after l l₃ c c₃ 1 (vs ++ (opening ++ ws)) (variables C + (0 + variables D)) 4 e (then l l₁ l₃ c c₁ c₃ vs (opening ++ ws) (variables C) (0 + variables D) d.wrote (then l₁ l₂ l₃ c₁ c₂ c₃ opening ws 0 (variables D) w f.wrote))
    (omega (arith, expr-words C 0 c.next, expr-words D 0 c₂.next, length-append vs (opening ++ ws)))

pub sub-filled : (l l₁ l₂ l₃ l₄ : List ℕ) (ns : List Slot) (c c₁ c₂ c₃ c₄ : Cursor) (i j : ℕ) → c ≡ start 1 → Written l l₁ c c₁ 0 (expr_of ns i) → Wrote l₁ l₂ c₁ c₂ opening 0 → Written l₂ l₃ c₂ c₃ 0 (expr_of ns j) → Wrote l₃ l₄ c₃ c₄ closing 0 → Filled l l₄ ns (Sub i j)
unfolding body_of
sub-filled l l₁ l₂ l₃ l₄ ns c c₁ c₂ c₃ c₄ i j e d w f x =
    let C : Expr = expr_of ns i in
    let D : Expr = expr_of ns j in
    let z : c.next ≡ 1 = ap (λ q. q.next) e in
    let nx : c₂.next ≡ 1 + variables C = (let p = d.wrote.next in let q = w.next in omega arith) in
    let vs : List ℕ = flat (of_expr C 0 1) in
    let ws : List ℕ = flat (of_expr D 0 (1 + variables C)) in
    let d' : Wrote l l₁ c c₁ vs (variables C) = subst (λ v. Wrote l l₁ c c₁ (flat (of_expr C 0 v)) (variables C)) z d.wrote in
    let f' : Wrote l₂ l₃ c₂ c₃ ws (variables D) = subst (λ v. Wrote l₂ l₃ c₂ c₃ (flat (of_expr D 0 v)) (variables D)) nx f.wrote in
    at-start e (flat-⊕ (of_expr C 0 1) (not (of_expr D 0 (1 + variables C)) end))
    (then l l₁ l₄ c c₁ c₄ vs (opening ++ (ws ++ closing)) (variables C) (0 + (variables D + 0)) d' (then l₁ l₂ l₄ c₁ c₂ c₄ opening (ws ++ closing) 0 (variables D + 0) w (then l₂ l₃ l₄ c₂ c₃ c₄ ws closing (variables D) 0 f' x)))
