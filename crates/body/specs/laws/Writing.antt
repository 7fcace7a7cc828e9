-- Laws of writing: one for each step of the compiler. Assumes nothing.
use Rattle.std.specs.Prelude.{◌≡◌, refl, Bool, true, false, List, [], ◌∷◌, ◌++◌, ℕ, zero, suc, ◌+◌, ◌*◌, ◌-◌, ◌/◌, ◌<◌, ◌≤◌, length, take}
use Rattle.std.proofs.Common.{sym, ap, subst, subst₂, ◌∙◌, suc-mul, pos_of_ne-zero, sub-one, arith, length-append}
use Rattle.std.proofs.Math.Nat.{mul-div_cancel_left}
use Rattle.std.proofs.Math.Seq.{length-sets}
use Rattle.logic.specs.laws.Sets.{sets-append}
use Rattle.store.specs.declared.Concept.{Concept}
use Rattle.store.specs.declared.Item.{Item}
use Rattle.rule.specs.declared.Node.{Node}
use Rattle.rule.specs.declared.RoleUse.{RoleUse}
use Rattle.rule.specs.declared.Slot.{Slot}
use Rattle.rule.specs.Form.{count_limit, node_at}
use Rattle.rule.specs.Expr.{Expr, build, expr_at}
use Rattle.rule.specs.Expr.Expr.{name, top, neg, both, many, own, one}
use Rattle.rule.specs.laws.Tree.{expr_at-step, expr_at-none}
use Rattle.body.specs.declared.Cursor.{Cursor}
use Rattle.body.specs.Body.{first_item, Atom, eq, Body, end, atom, ◌⊕◌, flat}
use Rattle.body.specs.Translation.{link_way, link, variables, turns, news, apart, pairs, of_expr, path, without}
use Rattle.body.specs.Length.{length_of}
use Rattle.body.specs.own.Writing.{SmallRole, SmallPath, Wrote, RoomFor, Roomy, Written, RoomyTurns, Turned, RoomyApart, Parted, RoomyPairs, Paired, RoomyPath, Pathed}
use Rattle.body.specs.laws.Body.{flat-⊕, size-⊕, length-flat}
use Rattle.body.specs.laws.Length.{size-expr, size-apart-news, size-pairs-news, size-turns-expr}

-- ---- the expression at a node

-- the expression at a node that is known
pub at-node : (k : ℕ) (ns : List Slot) (i : ℕ) (r d : Node) → ¬ (k ≡ 0) → r ≡ node_at ns i → r ≡ d → expr_at k ns i ≡ build (expr_at (k - 1) ns) d
at-node k ns i r d h e f = expr_at-step k ns i h ∙ ap (build (expr_at (k - 1) ns)) (sym e ∙ f)

pub at_zero : (k : ℕ) (ns : List Slot) (i : ℕ) → k ≡ 0 → expr_at k ns i ≡ top
at_zero k ns i e = ap (λ m. expr_at m ns i) e ∙ expr_at-none ns i

-- ---- writing

pub nothing : (l : List ℕ) (c : Cursor) → Wrote l l c c [] 0
nothing l c = record { room = refl; place = omega arith; next = omega arith }

pub then : (l l₁ l₂ : List ℕ) (c c₁ c₂ : Cursor) (vs ws : List ℕ) (u w : ℕ) → Wrote l l₁ c c₁ vs u → Wrote l₁ l₂ c₁ c₂ ws w → Wrote l l₂ c c₂ (vs ++ ws) (u + w)
then l l₁ l₂ c c₁ c₂ vs ws u w a b =
    record {
      room = b.room ∙ rw (a.room, a.place) (sym (sets-append l c.place vs ws));
      place = (let h = a.place in let k = b.place in omega (arith, length-append vs ws));
      next = (let h = a.next in let k = b.next in omega arith);
    }

pub wrote-length : (l l₁ : List ℕ) (c c₁ : Cursor) (vs : List ℕ) (u : ℕ) → Wrote l l₁ c c₁ vs u → length l₁ ≡ length l
wrote-length l l₁ c c₁ vs u a = ap length a.room ∙ length-sets l c.place vs

next-zero : (l l₁ : List ℕ) (c c₁ : Cursor) (ws : List ℕ) → Wrote l l₁ c c₁ ws 0 → c₁.next ≡ c.next
next-zero l l₁ c c₁ ws w = let h = w.next in omega arith

pub expr-words : (e : Expr) (t v : ℕ) → length (flat (of_expr e t v)) ≡ 4 * length_of e
expr-words e t v = length-flat (of_expr e t v) ∙ ap (λ n. 4 * n) (size-expr e t v)

-- ---- one atom in a not

pub link-room : (l l₁ : List ℕ) (c c₁ : Cursor) (u : RoleUse) → RoomFor l c 3 u → Wrote l l₁ c c₁ (4 ∷ 0 ∷ 0 ∷ 0 ∷ []) 0 → RoomFor l₁ c₁ 1 u
link-room l l₁ c c₁ u r w = record { fits = (let h = r.fits in let k = w.place in omega (arith, wrote-length l l₁ c c₁ _ _ w)); small = r.small }

pub close-room : (l l₁ l₂ : List ℕ) (c c₁ c₂ : Cursor) (vs ws : List ℕ) → length vs ≡ 4 → length ws ≡ 4 → c.place + 12 ≤ length l → Wrote l l₁ c c₁ vs 0 → Wrote l₁ l₂ c₁ c₂ ws 0 → c₂.place + 4 ≤ length l₂
close-room l l₁ l₂ c c₁ c₂ vs ws f g h w x = let i = w.place in let j = x.place in omega (arith, wrote-length l l₁ c c₁ vs 0 w, wrote-length l₁ l₂ c₁ c₂ ws 0 x)

pub without-done : (l l₁ l₂ l₃ : List ℕ) (c c₁ c₂ c₃ : Cursor) (a : Atom) → Wrote l l₁ c c₁ (4 ∷ 0 ∷ 0 ∷ 0 ∷ []) 0 → Wrote l₁ l₂ c₁ c₂ (flat (atom a end)) 0 → Wrote l₂ l₃ c₂ c₃ (5 ∷ 0 ∷ 0 ∷ 0 ∷ []) 0 → Wrote l l₃ c c₃ (flat (without a)) 0
without-done l l₁ l₂ l₃ c c₁ c₂ c₃ a w x y = then l l₁ l₃ c c₁ c₃ (4 ∷ 0 ∷ 0 ∷ 0 ∷ []) (flat (atom a end) ++ (5 ∷ 0 ∷ 0 ∷ 0 ∷ [])) 0 0 w (then l₁ l₂ l₃ c₁ c₂ c₃ (flat (atom a end)) (5 ∷ 0 ∷ 0 ∷ 0 ∷ []) 0 0 x y)

-- ---- an expression that is known

pub roomy-as : (l : List ℕ) (c : Cursor) (e f : Expr) → e ≡ f → Roomy l c e → Roomy l c f
roomy-as l c e f p h = subst (Roomy l c) p h

pub written_as : (l l₁ : List ℕ) (c r : Cursor) (t : ℕ) (e f : Expr) → e ≡ f → Written l l₁ c r t f → Written l l₁ c r t e
written_as l l₁ c r t e f p h = subst (Written l l₁ c r t) (sym p) h

pub top-done : (l : List ℕ) (c : Cursor) (t : ℕ) → Written l l c c t top
top-done l c t = record { wrote = nothing l c }

pub name_done : (l l₁ : List ℕ) (c c₁ : Cursor) (t r : ℕ) (a : Concept) → r ≡ a.0 → Wrote l l₁ c c₁ (1 ∷ r ∷ t ∷ 0 ∷ []) 0 → Written l l₁ c c₁ t (name a)
name_done l l₁ c c₁ t r a e w = record { wrote = subst (λ q. Wrote l l₁ c c₁ (1 ∷ q ∷ t ∷ 0 ∷ []) 0) e w }

pub one-done : (l l₁ : List ℕ) (c c₁ : Cursor) (t r : ℕ) (a : Item) → r ≡ first_item + a.0 → Wrote l l₁ c c₁ (flat (atom (eq t r) end)) 0 → Written l l₁ c c₁ t (one a)
one-done l l₁ c c₁ t r a e w = record { wrote = subst (λ q. Wrote l l₁ c c₁ (3 ∷ 0 ∷ t ∷ q ∷ []) 0) e w }

pub own-done : (l l₁ : List ℕ) (c c₁ : Cursor) (t : ℕ) (R : RoleUse) → Wrote l l₁ c c₁ (flat (atom (link R t t) end)) 0 → Written l l₁ c c₁ t (own R)
own-done l l₁ c c₁ t R w = record { wrote = w }

way-done : (l l₁ : List ℕ) (c c₁ : Cursor) (s t r : ℕ) (b i : Bool) → i ≡ b → Wrote l l₁ c c₁ (flat (atom (link_way b r s t) end)) 0 → Wrote l l₁ c c₁ (flat (atom (link_way i r s t) end)) 0
way-done l l₁ c c₁ s t r b i e w = subst (λ j. Wrote l l₁ c c₁ (flat (atom (link_way j r s t) end)) 0) (sym e) w

pub link-plain : (l l₁ : List ℕ) (c c₁ : Cursor) (s t r : ℕ) (u : RoleUse) → u.inverse ≡ false → r ≡ u.role.0 → Wrote l l₁ c c₁ (2 ∷ r ∷ s ∷ t ∷ []) 0 → Wrote l l₁ c c₁ (flat (atom (link u s t) end)) 0
link-plain l l₁ c c₁ s t r u e p w = way-done l l₁ c c₁ s t u.role.0 false u.inverse e (subst (λ q. Wrote l l₁ c c₁ (2 ∷ q ∷ s ∷ t ∷ []) 0) p w)

pub link-turned : (l l₁ : List ℕ) (c c₁ : Cursor) (s t r : ℕ) (u : RoleUse) → u.inverse ≡ true → r ≡ u.role.0 → Wrote l l₁ c c₁ (2 ∷ r ∷ t ∷ s ∷ []) 0 → Wrote l l₁ c c₁ (flat (atom (link u s t) end)) 0
link-turned l l₁ c c₁ s t r u e p w = way-done l l₁ c c₁ s t u.role.0 true u.inverse e (subst (λ q. Wrote l l₁ c c₁ (2 ∷ q ∷ t ∷ s ∷ []) 0) p w)

-- the room that an expression's first item has
pub name-room : (l : List ℕ) (c : Cursor) (a : Concept) → Roomy l c (name a) → (c.place + 4 ≤ length l) × (a.0 < first_item)
name-room l c a r = let h = r.fits in (omega arith, r.small)

pub not-room : (l : List ℕ) (c : Cursor) (C : Expr) → Roomy l c (neg C) → c.place + 4 ≤ length l
not-room l c C r = let h = r.fits in omega arith

pub own_room : (l : List ℕ) (c : Cursor) (u : RoleUse) → Roomy l c (own u) → RoomFor l c 1 u
own_room l c u r = record { fits = (let h = r.fits in omega arith); small = r.small }

pub one-room : (l : List ℕ) (c : Cursor) (a : Item) → Roomy l c (one a) → (c.place + 4 ≤ length l) × (a.0 < first_item)
one-room l c a r = let h = r.fits in (omega arith, r.small)

-- not: the open item, C, the close item
pub not-inner : (l l₁ : List ℕ) (c c₁ : Cursor) (C : Expr) (ws : List ℕ) → length ws ≡ 4 → Roomy l c (neg C) → Wrote l l₁ c c₁ ws 0 → Roomy l₁ c₁ C
not-inner l l₁ c c₁ C ws four r w =
    record {
      fits = (let h = r.fits in let k = w.place in omega (arith, wrote-length l l₁ c c₁ ws 0 w));
      vars = (let h = r.vars in let k = w.next in omega arith);
      small = r.small;
    }

pub not-close : (l l₁ l₂ : List ℕ) (c c₁ c₂ : Cursor) (t : ℕ) (C : Expr) (ws : List ℕ) → length ws ≡ 4 → Roomy l c (neg C) → Wrote l l₁ c c₁ ws 0 → Written l₁ l₂ c₁ c₂ t C → c₂.place + 4 ≤ length l₂
not-close l l₁ l₂ c c₁ c₂ t C ws four r w d =
    let h = r.fits in let k = w.place in let m = d.wrote.place in
    omega (arith, wrote-length l l₁ c c₁ ws 0 w, wrote-length l₁ l₂ c₁ c₂ _ _ d.wrote, expr-words C t c₁.next)

pub not_done : (l l₁ l₂ l₃ : List ℕ) (c c₁ c₂ c₃ : Cursor) (t : ℕ) (C : Expr) → Wrote l l₁ c c₁ (4 ∷ 0 ∷ 0 ∷ 0 ∷ []) 0 → Written l₁ l₂ c₁ c₂ t C → Wrote l₂ l₃ c₂ c₃ (5 ∷ 0 ∷ 0 ∷ 0 ∷ []) 0 → Written l l₃ c c₃ t (neg C)
not_done l l₁ l₂ l₃ c c₁ c₂ c₃ t C w d x =
    let d' : Wrote l₁ l₂ c₁ c₂ (flat (of_expr C t c.next)) (variables C) = subst (λ v. Wrote l₁ l₂ c₁ c₂ (flat (of_expr C t v)) (variables C)) (next-zero l l₁ c c₁ _ w) d.wrote in
    let z : Wrote l l₃ c c₃ (4 ∷ 0 ∷ 0 ∷ 0 ∷ (flat (of_expr C t c.next) ++ (5 ∷ 0 ∷ 0 ∷ 0 ∷ []))) (0 + (variables C + 0)) = then l l₁ l₃ c c₁ c₃ (4 ∷ 0 ∷ 0 ∷ 0 ∷ []) _ 0 _ w (then l₁ l₂ l₃ c₁ c₂ c₃ _ (5 ∷ 0 ∷ 0 ∷ 0 ∷ []) (variables C) 0 d' x) in
    record { wrote = subst (Wrote l l₃ c c₃ _) (omega arith) z }

-- and: C, then D
pub and_first : (l : List ℕ) (c : Cursor) (C D : Expr) → Roomy l c (both C D) → Roomy l c C
and_first l c C D r = record { fits = (let h = r.fits in omega arith); vars = (let h = r.vars in omega arith); small = r.small.0 }

pub and_second : (l l₁ : List ℕ) (c c₁ : Cursor) (t : ℕ) (C D : Expr) → Roomy l c (both C D) → Written l l₁ c c₁ t C → Roomy l₁ c₁ D
and_second l l₁ c c₁ t C D r w =
    record {
      fits = (let h = r.fits in let k = w.wrote.place in omega (arith, wrote-length l l₁ c c₁ _ _ w.wrote, expr-words C t c.next));
      vars = (let h = r.vars in let k = w.wrote.next in omega arith);
      small = r.small.1;
    }

pub and-done : (l l₁ l₂ : List ℕ) (c c₁ c₂ : Cursor) (t : ℕ) (C D : Expr) → Written l l₁ c c₁ t C → Written l₁ l₂ c₁ c₂ t D → Written l l₂ c c₂ t (both C D)
and-done l l₁ l₂ c c₁ c₂ t C D w d =
    let d' : Wrote l₁ l₂ c₁ c₂ (flat (of_expr D t (c.next + variables C))) (variables D) = subst (λ v. Wrote l₁ l₂ c₁ c₂ (flat (of_expr D t v)) (variables D)) w.wrote.next d.wrote in
    record { wrote = rw (flat-⊕ (of_expr C t c.next) (of_expr D t (c.next + variables C))) (then l l₁ l₂ c c₁ c₂ _ _ (variables C) (variables D) w.wrote d') }

-- ---- the nots between the new variables

abbrev parting : ℕ → ℕ → List ℕ
parting y z = flat (without (eq y z))

pub apart_none : (l : List ℕ) (c : Cursor) (y z s n : ℕ) → n ≡ 0 → Parted l l c c y z s n
apart_none l c y z s n e = rw e (record { wrote = nothing l c })

pub apart-room : (l : List ℕ) (c : Cursor) (z s n : ℕ) → ¬ (n ≡ 0) → RoomyApart l c z s n → (c.place + 12 ≤ length l) × (z + s ≤ first_item)
apart-room l c z s zero ne r = absurd (ne refl)
apart-room l c z s (suc n) ne r = let h = r.fits in let k = r.vars in (omega arith, omega (arith, suc-mul n s))

pub apart-rest : (l l₁ : List ℕ) (c c₁ : Cursor) (y z s n : ℕ) → ¬ (n ≡ 0) → RoomyApart l c z s n → Wrote l l₁ c c₁ (parting y z) 0 → RoomyApart l₁ c₁ (z + s) s (n - 1)
apart-rest l l₁ c c₁ y z s zero ne r w = absurd (ne refl)
apart-rest l l₁ c c₁ y z s (suc n) ne r w = rw (sub-one (suc n)) (record { fits = (let h = r.fits in let k = w.place in omega (arith, wrote-length l l₁ c c₁ _ _ w)); vars = (let h = r.vars in omega (arith, suc-mul n s)) })

pub apart-done : (l l₁ l₂ : List ℕ) (c c₁ c₂ : Cursor) (y z s n : ℕ) → ¬ (n ≡ 0) → Wrote l l₁ c c₁ (parting y z) 0 → Parted l₁ l₂ c₁ c₂ y (z + s) s (n - 1) → Parted l l₂ c c₂ y z s n
apart-done l l₁ l₂ c c₁ c₂ y z s zero ne w p = absurd (ne refl)
apart-done l l₁ l₂ c c₁ c₂ y z s (suc n) ne w p =
    let p' : Parted l₁ l₂ c₁ c₂ y (z + s) s n = rw (sub-one (suc n)) at p in
    record { wrote = then l l₁ l₂ c c₁ c₂ (parting y z) (flat (apart y (news s n (z + s)))) 0 0 w p'.wrote }

pub pairs-none : (l : List ℕ) (c : Cursor) (y s n : ℕ) → n ≡ 0 → Paired l l c c y s n
pairs-none l c y s n e = rw e (record { wrote = nothing l c })

pub pairs-room : (l : List ℕ) (c : Cursor) (y s n : ℕ) → ¬ (n ≡ 0) → RoomyPairs l c y s n → RoomyApart l c (y + s) s (n - 1) × (y + s ≤ first_item)
pairs-room l c y s zero ne r = absurd (ne refl)
pairs-room l c y s (suc n) ne r = (
  rw (sub-one (suc n)) (record { fits = (let h = r.fits in omega (arith, size-⊕ (apart y (news s n (y + s))) (pairs (news s n (y + s))), size-apart-news y s n (y + s))); vars = (let h = r.vars in omega (arith, suc-mul n s)) }),
  (let k = r.vars in omega (arith, suc-mul n s)),
)

pub pairs-rest : (l l₁ : List ℕ) (c c₁ : Cursor) (y s n : ℕ) → ¬ (n ≡ 0) → RoomyPairs l c y s n → Parted l l₁ c c₁ y (y + s) s (n - 1) → RoomyPairs l₁ c₁ (y + s) s (n - 1)
pairs-rest l l₁ c c₁ y s zero ne r p = absurd (ne refl)
pairs-rest l l₁ c c₁ y s (suc n) ne r p =
    let p' : Parted l l₁ c c₁ y (y + s) s n = rw (sub-one (suc n)) at p in
    rw (sub-one (suc n)) (record {
      fits = (let h = r.fits in let k = p'.wrote.place in omega (arith, wrote-length l l₁ c c₁ _ _ p'.wrote, length-flat (apart y (news s n (y + s))), size-⊕ (apart y (news s n (y + s))) (pairs (news s n (y + s)))));
      vars = (let h = r.vars in omega (arith, suc-mul n s));
    })

pub pairs-done : (l l₁ l₂ : List ℕ) (c c₁ c₂ : Cursor) (y s n : ℕ) → ¬ (n ≡ 0) → Parted l l₁ c c₁ y (y + s) s (n - 1) → Paired l₁ l₂ c₁ c₂ (y + s) s (n - 1) → Paired l l₂ c c₂ y s n
pairs-done l l₁ l₂ c c₁ c₂ y s zero ne p q = absurd (ne refl)
pairs-done l l₁ l₂ c c₁ c₂ y s (suc n) ne p q =
    let p' : Parted l l₁ c c₁ y (y + s) s n = rw (sub-one (suc n)) at p in
    let q' : Paired l₁ l₂ c₁ c₂ (y + s) s n = rw (sub-one (suc n)) at q in
    record { wrote = rw (flat-⊕ (apart y (news s n (y + s))) (pairs (news s n (y + s)))) (then l l₁ l₂ c c₁ c₂ _ _ 0 0 p'.wrote q'.wrote) }

-- ---- turns

pub turns-none : (l : List ℕ) (c : Cursor) (t : ℕ) (R : RoleUse) (e : Expr) (n : ℕ) → n ≡ 0 → Turned l l c c t R e n
turns-none l c t R e n p = rw p (record { wrote = subst (Wrote l l c c []) (omega arith) (nothing l c) })

pub turns-room : (l : List ℕ) (c : Cursor) (u : RoleUse) (e : Expr) (n : ℕ) → ¬ (n ≡ 0) → RoomyTurns l c u e n → RoomFor l c 1 u × (c.next + 1 ≤ first_item)
turns-room l c u e zero ne r = absurd (ne refl)
turns-room l c u e (suc n) ne r = let h = r.fits in let k = r.vars in (record { fits = omega (arith, suc-mul n (1 + length_of e)); small = r.role }, omega (arith, suc-mul n (variables e + 1)))

words-way : (i : Bool) (r s t : ℕ) → length (flat (atom (link_way i r s t) end)) ≡ 4
words-way false r s t = refl
words-way true r s t = refl

pub link-words : (R : RoleUse) (s t : ℕ) → length (flat (atom (link R s t) end)) ≡ 4
link-words R s t = words-way R.inverse R.role.0 s t

-- after the link atom
pub turns-inner : (l l₁ : List ℕ) (c c₁ d : Cursor) (s t : ℕ) (R : RoleUse) (e : Expr) (n : ℕ) → ¬ (n ≡ 0) → RoomyTurns l c R e n → Wrote l l₁ c c₁ (flat (atom (link R s t) end)) 0 → d.place ≡ c₁.place → d.next ≡ c.next + 1 → Roomy l₁ d e
turns-inner l l₁ c c₁ d s t R e zero ne r w dp dn = absurd (ne refl)
turns-inner l l₁ c c₁ d s t R e (suc n) ne r w dp dn =
    record {
      fits = (let h = r.fits in let k = w.place in omega (arith, suc-mul n (1 + length_of e), wrote-length l l₁ c c₁ _ _ w, link-words R s t));
      vars = (let h = r.vars in omega (arith, suc-mul n (variables e + 1)));
      small = r.small;
    }

pub turns-rest : (l l₁ l₂ : List ℕ) (c c₁ d c₂ : Cursor) (s t : ℕ) (R : RoleUse) (e : Expr) (n : ℕ) → ¬ (n ≡ 0) → RoomyTurns l c R e n → Wrote l l₁ c c₁ (flat (atom (link R s t) end)) 0 → d.place ≡ c₁.place → d.next ≡ c.next + 1 → Written l₁ l₂ d c₂ t e → RoomyTurns l₂ c₂ R e (n - 1)
turns-rest l l₁ l₂ c c₁ d c₂ s t R e zero ne r w dp dn k = absurd (ne refl)
turns-rest l l₁ l₂ c c₁ d c₂ s t R e (suc n) ne r w dp dn k =
    rw (sub-one (suc n)) (record {
      fits = (let h = r.fits in let p = w.place in let q = k.wrote.place in omega (arith, suc-mul n (1 + length_of e), wrote-length l l₁ c c₁ _ _ w, wrote-length l₁ l₂ d c₂ _ _ k.wrote, link-words R s t, expr-words e t d.next));
      vars = (let h = r.vars in let q = k.wrote.next in omega (arith, suc-mul n (variables e + 1)));
      count = (let h = r.count in omega arith);
      role = r.role;
      small = r.small;
    })

flat-way : (i : Bool) (r s t : ℕ) (q : Body) → flat (atom (link_way i r s t) q) ≡ flat (atom (link_way i r s t) end) ++ flat q
flat-way false r s t q = refl
flat-way true r s t q = refl

flat-link : (R : RoleUse) (s t : ℕ) (q : Body) → flat (atom (link R s t) q) ≡ flat (atom (link R s t) end) ++ flat q
flat-link R s t q = flat-way R.inverse R.role.0 s t q

pub turns-done : (l l₁ l₂ l₃ : List ℕ) (c c₁ d c₂ c₃ : Cursor) (t : ℕ) (R : RoleUse) (e : Expr) (n : ℕ) → ¬ (n ≡ 0) → Wrote l l₁ c c₁ (flat (atom (link R t c.next) end)) 0 → d.place ≡ c₁.place → d.next ≡ c.next + 1 → Written l₁ l₂ d c₂ c.next e → Turned l₂ l₃ c₂ c₃ t R e (n - 1) → Turned l l₃ c c₃ t R e n
turns-done l l₁ l₂ l₃ c c₁ d c₂ c₃ t R e zero ne w dp dn k z = absurd (ne refl)
turns-done l l₁ l₂ l₃ c c₁ d c₂ c₃ t R e (suc n) ne w dp dn k z =
    let y : ℕ = c.next in
    let u : ℕ = variables e + 1 in
    let z' : Turned l₂ l₃ c₂ c₃ t R e n = rw (sub-one (suc n)) at z in
    let w' : Wrote l l₁ c d (flat (atom (link R t y) end)) 1 = record { room = w.room; place = dp ∙ w.place; next = dn } in
    let k' : Wrote l₁ l₂ d c₂ (flat (of_expr e y (y + 1))) (variables e) = subst (λ v. Wrote l₁ l₂ d c₂ (flat (of_expr e y v)) (variables e)) dn k.wrote in
    let en : c₂.next ≡ y + u = (let a = k'.next in omega arith) in
    let m : Wrote l₂ l₃ c₂ c₃ (flat (turns (of_expr e) R u n t (y + u))) (n * u) = subst (λ v. Wrote l₂ l₃ c₂ c₃ (flat (turns (of_expr e) R u n t v)) (n * u)) en z'.wrote in
    let all : Wrote l l₃ c c₃ (flat (atom (link R t y) end) ++ (flat (of_expr e y (y + 1)) ++ flat (turns (of_expr e) R u n t (y + u)))) (1 + (variables e + n * u)) = then l l₁ l₃ c d c₃ _ _ 1 _ w' (then l₁ l₂ l₃ d c₂ c₃ _ _ (variables e) (n * u) k' m) in
    record { wrote = subst₂ (Wrote l l₃ c c₃) (sym (flat-link R t y (of_expr e y (y + 1) ⊕ turns (of_expr e) R u n t (y + u)) ∙ ap (λ x. flat (atom (link R t y) end) ++ x) (flat-⊕ (of_expr e y (y + 1)) (turns (of_expr e) R u n t (y + u))))) (omega (arith, suc-mul n u)) all }

-- ---- at least

pub least-none : (l : List ℕ) (c : Cursor) (t n : ℕ) (R : RoleUse) (e : Expr) → n ≡ 0 → Written l l c c t (many n R e)
least-none l c t n R e p = rw p (record { wrote = subst (Wrote l l c c []) (omega arith) (nothing l c) })

pub least-turns : (l : List ℕ) (c : Cursor) (n : ℕ) (R : RoleUse) (e : Expr) → Roomy l c (many n R e) → RoomyTurns l c R e n
least-turns l c n R e r = record { fits = (let h = r.fits in omega arith); vars = r.vars; count = r.small.0; role = r.small.1; small = r.small.2 }

pub least-few : (l : List ℕ) (c : Cursor) (n : ℕ) (R : RoleUse) (e : Expr) → Roomy l c (many n R e) → n ≤ count_limit
least-few l c n R e r = r.small.0

pub least-stride : (l l₁ : List ℕ) (c c₁ : Cursor) (t n w : ℕ) (R : RoleUse) (e : Expr) → ¬ (n ≡ 0) → w ≡ n → Turned l l₁ c c₁ t R e n → (c₁.next - c.next) / w ≡ variables e + 1
least-stride l l₁ c c₁ t n w R e ne p z = ap (λ x. (c₁.next - c.next) / x) p ∙ ap (λ x. x / n) (diff z.wrote.next) ∙ mul-div_cancel_left (variables e + 1) (pos_of_ne-zero ne)
  where
    diff : c₁.next ≡ c.next + n * (variables e + 1) → c₁.next - c.next ≡ n * (variables e + 1)
    diff h = omega arith

pub least-pairs : (l l₁ : List ℕ) (c c₁ : Cursor) (t n s : ℕ) (R : RoleUse) (e : Expr) → Roomy l c (many n R e) → Turned l l₁ c c₁ t R e n → s ≡ variables e + 1 → RoomyPairs l₁ c₁ c.next s n
least-pairs l l₁ c c₁ t n s R e r z p =
    rw p (record {
      fits = (let h = r.fits in let k = z.wrote.place in omega (arith, wrote-length l l₁ c c₁ _ _ z.wrote, length-flat (turns (of_expr e) R (variables e + 1) n t c.next), size-turns-expr e R (variables e + 1) n t c.next, size-pairs-news (variables e + 1) n c.next));
      vars = r.vars;
    })

pub least-done : (l l₁ l₂ : List ℕ) (c c₁ c₂ : Cursor) (t n s : ℕ) (R : RoleUse) (e : Expr) → Turned l l₁ c c₁ t R e n → s ≡ variables e + 1 → Paired l₁ l₂ c₁ c₂ c.next s n → Written l l₂ c c₂ t (many n R e)
least-done l l₁ l₂ c c₁ c₂ t n s R e z p q =
    let q' : Paired l₁ l₂ c₁ c₂ c.next (variables e + 1) n = subst (λ x. Paired l₁ l₂ c₁ c₂ c.next x n) p q in
    let all = then l l₁ l₂ c c₁ c₂ _ _ (n * (variables e + 1)) 0 z.wrote q'.wrote in
    record { wrote = subst₂ (Wrote l l₂ c c₂) (sym (flat-⊕ (turns (of_expr e) R (variables e + 1) n t c.next) (pairs (news (variables e + 1) n c.next)))) (omega arith) all }

-- ---- the path of a chain

abbrev first_roles : ℕ → RoleUse → RoleUse → RoleUse → RoleUse → List RoleUse
first_roles k r1 r2 r3 r4 = take k (r1 ∷ r2 ∷ r3 ∷ r4 ∷ [])

-- without the first role, which a later place can stand for
shifted : (k : ℕ) (r1 r2 r3 r4 : RoleUse) → ¬ (k ≡ 1) → 1 ≤ k → k ≤ 4 → first_roles k r1 r2 r3 r4 ≡ r1 ∷ first_roles (k - 1) r2 r3 r4 r4
shifted zero r1 r2 r3 r4 ne l h = absurd (omega arith)
shifted (suc zero) r1 r2 r3 r4 ne l h = absurd (ne refl)
shifted (suc (suc zero)) r1 r2 r3 r4 ne l h = refl
shifted (suc (suc (suc zero))) r1 r2 r3 r4 ne l h = refl
shifted (suc (suc (suc (suc zero)))) r1 r2 r3 r4 ne l h = refl
shifted (suc (suc (suc (suc (suc k))))) r1 r2 r3 r4 ne l h = absurd (omega arith)

path-first : (rs : List RoleUse) (r : RoleUse) (t v : ℕ) → 1 ≤ length rs → flat (path (r ∷ rs) t v) ≡ flat (atom (link r t v) end) ++ flat (path rs v (v + 1))
path-first [] r t v l = absurd (omega arith)
path-first (q ∷ rs) r t v l = flat-link r t v (path (q ∷ rs) v (v + 1))

small-first : (k : ℕ) (r1 r2 r3 r4 : RoleUse) → 1 ≤ k → SmallPath (first_roles k r1 r2 r3 r4) → SmallRole r1
small-first zero r1 r2 r3 r4 l h = absurd (omega arith)
small-first (suc k) r1 r2 r3 r4 l h = h.0

pub path-none : (l : List ℕ) (c : Cursor) (t : ℕ) → Pathed l l c c t []
path-none l c t = record { wrote = nothing l c }

pub path_room : (l : List ℕ) (c : Cursor) (r : RoleUse) (rs : List RoleUse) → RoomyPath l c (r ∷ rs) → RoomFor l c 1 r
path_room l c r rs p = record { fits = (let h = p.fits in omega arith); small = p.small.0 }

pub path-rest : (l l₁ : List ℕ) (c c₁ d : Cursor) (t : ℕ) (r : RoleUse) (rs : List RoleUse) → RoomyPath l c (r ∷ rs) → Wrote l l₁ c c₁ (flat (atom (link r t c.next) end)) 0
    → d.place ≡ c₁.place → d.next ≡ c.next + 1 → RoomyPath l₁ d rs
path-rest l l₁ c c₁ d t r rs p w dp dn = record {
  fits = (let h = p.fits in let k = w.place in omega (arith, wrote-length l l₁ c c₁ _ _ w, link-words r t c.next));
  vars = (let h = p.vars in omega arith);
  small = p.small.1;
}

pub path-last : (l l₁ : List ℕ) (c c₁ : Cursor) (t : ℕ) (r : RoleUse) → Wrote l l₁ c c₁ (flat (atom (link r t 1) end)) 0 → Pathed l l₁ c c₁ t (r ∷ [])
path-last l l₁ c c₁ t r w = record { wrote = w }

pub path-done : (l l₁ l₂ : List ℕ) (c c₁ d c₂ : Cursor) (t : ℕ) (r q : RoleUse) (rs : List RoleUse) → Wrote l l₁ c c₁ (flat (atom (link r t c.next) end)) 0
    → d.place ≡ c₁.place → d.next ≡ c.next + 1 → Pathed l₁ l₂ d c₂ c.next (q ∷ rs) → Pathed l l₂ c c₂ t (r ∷ q ∷ rs)
path-done l l₁ l₂ c c₁ d c₂ t r q rs w dp dn p =
    let y : ℕ = c.next in
    let w' : Wrote l l₁ c d (flat (atom (link r t y) end)) 1 = record { room = w.room; place = dp ∙ w.place; next = dn } in
    let p' : Wrote l₁ l₂ d c₂ (flat (path (q ∷ rs) y (y + 1))) (length (q ∷ rs) - 1) = subst (λ v. Wrote l₁ l₂ d c₂ (flat (path (q ∷ rs) y v)) (length (q ∷ rs) - 1)) dn p.wrote in
    let all : Wrote l l₂ c c₂ (flat (atom (link r t y) end) ++ flat (path (q ∷ rs) y (y + 1))) (1 + (length (q ∷ rs) - 1)) = then l l₁ l₂ c d c₂ _ _ 1 _ w' p' in
    record { wrote = subst₂ (Wrote l l₂ c c₂) (sym (flat-link r t y (path (q ∷ rs) y (y + 1)))) (omega arith) all }
