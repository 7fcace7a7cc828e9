-- Laws of a rule's plan: that its places are those of the rule's findings. Assumes nothing.
use Rattle.std.specs.Prelude.{◌≡◌, refl, Bool, List, ℕ, ◌*◌, ◌≤◌}
use Rattle.std.proofs.Common.{sym, ◌∙◌, ⊎_elim, arith}
use Rattle.std.proofs.Math.Path.{ap, subst}
use Rattle.std.proofs.Math.Bool.{true, false}
use Rattle.std.proofs.lemmas.Bool.{false≢true}
use Rattle.logic.specs.own.Decides.{Decides}
use Rattle.row.specs.own.Row.{RowHas}
use Rattle.row.specs.own.Pick.{AllBelow, Empty, Marked, Marks, Met, Without, room}
use Rattle.row.specs.laws.Marks.{marks-iff}
use Rattle.store.specs.declared.Counts.{Counts}
use Rattle.store.specs.Cell.{Cell, DeclaredItem}
use Rattle.rule.specs.declared.Head.{Head}
use Rattle.rule.specs.declared.Head.TheVariants.{Sub, RoleSub, Chain, Ref, Irr, Dis, In, Rel, NoRel, Same, Differ}
use Rattle.breach.specs.declared.Plan.{Plan}
use Rattle.rule.specs.declared.Rule.{Rule}
use Rattle.rule.specs.Second.{Second}
use Rattle.rule.specs.declared.Slot.{Slot}
use Rattle.rule.specs.Breaks.{Breaks, BreaksAlone, BreaksPair}
use Rattle.breach.specs.own.Plan.{BreaksBy, PlaceBreaks, PlaceIf, PlanBreaks, Planned, RootRow, is_pair, is_sub, left_root, place_of, right_root, second_at, second_if}
use Rattle.std.specs.Prelude.{None, Some}

-- ---- the row of x

-- a pair rule has its places at the second items
pub pair-places : (C : Cell → Type 0) (n : Counts) {r : List ℕ} (p : Plan) (x : ℕ) → is_pair p.head ≡ true → Marks n.items r (BreaksPair C n p.head x) → Marks n.items r (PlaceBreaks C n p x)
pair-places C n {r} p x e m = subst (λ (b : Bool). Marks n.items r (PlaceIf C n p x b)) (sym e) m

-- a rule about one item has its place at 0
pub alone-places : (C : Cell → Type 0) (n : Counts) {s t : List ℕ} {on : Bool} (p : Plan) (x : ℕ) → is_pair p.head ≡ false → DeclaredItem n x
    → Decides on (BreaksBy C (RowHas p.left) (RowHas p.right) p.head x) → Empty s → Marked on 0 s t → Marks n.items t (PlaceBreaks C n p x)
alone-places C n {s} {t} {on} p x e l d m k = subst (λ (b : Bool). Marks n.items t (PlaceIf C n p x b)) (sym e) (record {
  sound = λ y h. ⊎_elim (λ z. absurd (m.none y z)) (λ z. (omega (arith, z.1), (z.1, d.holds z.0))) (k.only y h);
  whole = λ y ly b. subst (λ (z : ℕ). RowHas t z) (sym b.0) (k.gets (told on refl b.1));
})
  where
    told : (b : Bool) → on ≡ b → BreaksBy C (RowHas p.left) (RowHas p.right) p.head x → on ≡ true
    told true q z = q
    told false q z = absurd (d.fails q z)

-- ---- a rule of two roots

-- the numbers that a row has and another has not
pub but-marks : {n : ℕ} {all a on b r : List ℕ} → n ≤ 64 * room → AllBelow n all → Met all a on → Without on b r → Marks n r (λ x. RowHas a x × ¬ (RowHas b x))
but-marks small d m w = record {
  sound = λ x h. let y = w.left x h in (d.only x (m.left x y), (m.right x y, w.right x h));
  whole = λ x l h. w.has x (omega arith) (m.has x (omega arith) (d.has x l) h.0) h.1;
}

sub-to : (C : Cell → Type 0) (L R : ℕ → Type 0) (h : Head) → is_sub h ≡ true → (x : ℕ) → L x × ¬ (R x) → BreaksBy C L R h x
sub-to C L R (Sub a b) e x z = z
sub-to C L R (RoleSub r s) e x z = absurd (false≢true e)
sub-to C L R (Chain k r1 r2 r3 r4 r) e x z = absurd (false≢true e)
sub-to C L R (Ref r) e x z = absurd (false≢true e)
sub-to C L R (Irr r) e x z = absurd (false≢true e)
sub-to C L R (Dis r s) e x z = absurd (false≢true e)
sub-to C L R (In a i) e x z = absurd (false≢true e)
sub-to C L R (Rel r i j) e x z = absurd (false≢true e)
sub-to C L R (NoRel r i j) e x z = absurd (false≢true e)
sub-to C L R (Same i j) e x z = absurd (false≢true e)
sub-to C L R (Differ i j) e x z = absurd (false≢true e)

to-sub : (C : Cell → Type 0) (L R : ℕ → Type 0) (h : Head) → is_sub h ≡ true → (x : ℕ) → BreaksBy C L R h x → L x × ¬ (R x)
to-sub C L R (Sub a b) e x z = z
to-sub C L R (RoleSub r s) e x z = absurd z
to-sub C L R (Chain k r1 r2 r3 r4 r) e x z = absurd z
to-sub C L R (Ref r) e x z = absurd (false≢true e)
to-sub C L R (Irr r) e x z = absurd (false≢true e)
to-sub C L R (Dis r s) e x z = absurd z
to-sub C L R (In a i) e x z = absurd (false≢true e)
to-sub C L R (Rel r i j) e x z = absurd z
to-sub C L R (NoRel r i j) e x z = absurd z
to-sub C L R (Same i j) e x z = absurd z
to-sub C L R (Differ i j) e x z = absurd z

-- what breaks such a rule
pub sub-marks : {n : ℕ} {r : List ℕ} {L R : ℕ → Type 0} (C : Cell → Type 0) (h : Head) → is_sub h ≡ true → Marks n r (λ x. L x × ¬ (R x)) → Marks n r (BreaksBy C L R h)
sub-marks {L = L} {R} C h e m = marks-iff (λ x l. sub-to C L R h e x) (λ x l. to-sub C L R h e x) m

-- it is about one item
pub sub-alone : (h : Head) → is_sub h ≡ true → is_pair h ≡ false
sub-alone (Sub a b) e = refl
sub-alone (RoleSub r s) e = absurd (false≢true e)
sub-alone (Chain k r1 r2 r3 r4 r) e = absurd (false≢true e)
sub-alone (Ref r) e = refl
sub-alone (Irr r) e = refl
sub-alone (Dis r s) e = absurd (false≢true e)
sub-alone (In a i) e = refl
sub-alone (Rel r i j) e = absurd (false≢true e)
sub-alone (NoRel r i j) e = absurd (false≢true e)
sub-alone (Same i j) e = absurd (false≢true e)
sub-alone (Differ i j) e = absurd (false≢true e)

-- ---- places and findings

-- no rule is broken both by pairs and by one item
pair-only : (C : Cell → Type 0) (n : Counts) (h : Head) (x y : ℕ) → BreaksPair C n h x y → is_pair h ≡ true
pair-only C n (Sub a b) x y z = absurd z
pair-only C n (RoleSub r s) x y z = refl
pair-only C n (Chain k r1 r2 r3 r4 r) x y z = refl
pair-only C n (Ref r) x y z = absurd z
pair-only C n (Irr r) x y z = absurd z
pair-only C n (Dis r s) x y z = refl
pair-only C n (In a i) x y z = absurd z
pair-only C n (Rel r i j) x y z = refl
pair-only C n (NoRel r i j) x y z = refl
pair-only C n (Same i j) x y z = refl
pair-only C n (Differ i j) x y z = refl

alone-only : (C : Cell → Type 0) (L R : ℕ → Type 0) (h : Head) (x : ℕ) → BreaksBy C L R h x → is_pair h ≡ false
alone-only C L R (Sub a b) x z = refl
alone-only C L R (RoleSub r s) x z = absurd z
alone-only C L R (Chain k r1 r2 r3 r4 r) x z = absurd z
alone-only C L R (Ref r) x z = refl
alone-only C L R (Irr r) x z = refl
alone-only C L R (Dis r s) x z = absurd z
alone-only C L R (In a i) x z = refl
alone-only C L R (Rel r i j) x z = absurd z
alone-only C L R (NoRel r i j) x z = absurd z
alone-only C L R (Same i j) x z = absurd z
alone-only C L R (Differ i j) x z = absurd z

module _ (C : Cell → Type 0) (n : Counts) (p : Plan) where
  -- what breaks the rule has its place
  pub breaks-second : (x : ℕ) (s : Second) → PlanBreaks C n p x s → s ≡ second_at p.head (place_of s)
  unfolding PlanBreaks
  breaks-second x None b = ap (λ (t : Bool). second_if t 0) (sym (alone-only C (RowHas p.left) (RowHas p.right) p.head x b.1))
  breaks-second x (Some y) b = ap (λ (t : Bool). second_if t y.0) (sym (pair-only C n p.head x y.0 b.2))

  -- its item is declared
  pub breaks-item : (x : ℕ) (s : Second) → PlanBreaks C n p x s → DeclaredItem n x
  unfolding PlanBreaks
  breaks-item x None b = b.0
  breaks-item x (Some y) b = b.0

  -- and the place is one of a finding
  pub breaks-place : (x : ℕ) (s : Second) → PlanBreaks C n p x s → DeclaredItem n (place_of s) × PlaceBreaks C n p x (place_of s)
  unfolding PlanBreaks
  breaks-place x None b = (omega (arith, b.0), subst (λ (t : Bool). PlaceIf C n p x t 0) (sym (alone-only C (RowHas p.left) (RowHas p.right) p.head x b.1)) (refl, b.1))
  breaks-place x (Some y) b = (b.1, subst (λ (t : Bool). PlaceIf C n p x t y.0) (sym (pair-only C n p.head x y.0 b.2)) b.2)

  place-if : (t : Bool) (x y : ℕ) → DeclaredItem n x → DeclaredItem n y → PlaceIf C n p x t y → PlanBreaks C n p x (second_if t y)
  unfolding PlanBreaks
  place-if false x y lx ly b = (lx, b.1)
  place-if true x y lx ly b = (lx, ly, b)

  -- a place of a finding is that of what breaks the rule
  pub place-breaks : (x y : ℕ) → DeclaredItem n x → DeclaredItem n y → PlaceBreaks C n p x y → PlanBreaks C n p x (second_at p.head y)
  place-breaks x y lx ly b = place-if (is_pair p.head) x y lx ly b

  second-place : (t : Bool) (x y : ℕ) → PlaceIf C n p x t y → place_of (second_if t y) ≡ y
  second-place false x y b = sym b.0
  second-place true x y b = refl

  -- the place of a finding is found again from its second item
  pub place-second : (x y : ℕ) → PlaceBreaks C n p x y → place_of (second_at p.head y) ≡ y
  place-second x y b = second-place (is_pair p.head) x y b

  place-one : (t : Bool) (x y z : ℕ) → PlaceIf C n p x t y → PlaceIf C n p x t z → second_if t y ≡ second_if t z → y ≡ z
  place-one false x y z a b e = a.0 ∙ sym b.0
  place-one true x y z a b e = ap place_of e

  -- a place is settled by its second item
  pub place-unique : (x y z : ℕ) → PlaceBreaks C n p x y → PlaceBreaks C n p x z → second_at p.head y ≡ second_at p.head z → y ≡ z
  place-unique x y z a b e = place-one (is_pair p.head) x y z a b e

-- ---- the plan of a rule, and the rule

by-alone : (C : Cell → Type 0) (n : Counts) (ns : List Slot) (h : Head) (l r : List ℕ) (x : ℕ) → DeclaredItem n x → RootRow C n ns (left_root h) l → RootRow C n ns (right_root h) r
    → BreaksBy C (RowHas l) (RowHas r) h x → BreaksAlone C n ns h x
by-alone C n ns (Sub a b) pl pr x lx ml mr z = ((ml.sound x z.0).1, λ q. z.1 (mr.whole x lx q))
by-alone C n ns (RoleSub r s) pl pr x lx ml mr z = z
by-alone C n ns (Chain k r1 r2 r3 r4 r) pl pr x lx ml mr z = z
by-alone C n ns (Ref r) pl pr x lx ml mr z = z
by-alone C n ns (Irr r) pl pr x lx ml mr z = z
by-alone C n ns (Dis r s) pl pr x lx ml mr z = z
by-alone C n ns (In a i) pl pr x lx ml mr z = (z.0, λ q. z.1 (ml.whole x lx q))
by-alone C n ns (Rel r i j) pl pr x lx ml mr z = z
by-alone C n ns (NoRel r i j) pl pr x lx ml mr z = z
by-alone C n ns (Same i j) pl pr x lx ml mr z = z
by-alone C n ns (Differ i j) pl pr x lx ml mr z = z

alone-by : (C : Cell → Type 0) (n : Counts) (ns : List Slot) (h : Head) (l r : List ℕ) (x : ℕ) → DeclaredItem n x → RootRow C n ns (left_root h) l → RootRow C n ns (right_root h) r
    → BreaksAlone C n ns h x → BreaksBy C (RowHas l) (RowHas r) h x
alone-by C n ns (Sub a b) pl pr x lx ml mr z = (ml.whole x lx z.0, λ q. z.1 (mr.sound x q).1)
alone-by C n ns (RoleSub r s) pl pr x lx ml mr z = z
alone-by C n ns (Chain k r1 r2 r3 r4 r) pl pr x lx ml mr z = z
alone-by C n ns (Ref r) pl pr x lx ml mr z = z
alone-by C n ns (Irr r) pl pr x lx ml mr z = z
alone-by C n ns (Dis r s) pl pr x lx ml mr z = z
alone-by C n ns (In a i) pl pr x lx ml mr z = (z.0, λ q. z.1 (ml.sound x q).1)
alone-by C n ns (Rel r i j) pl pr x lx ml mr z = z
alone-by C n ns (NoRel r i j) pl pr x lx ml mr z = z
alone-by C n ns (Same i j) pl pr x lx ml mr z = z
alone-by C n ns (Differ i j) pl pr x lx ml mr z = z

-- a rule and its plan are broken by the same
pub planned-breaks : {C : Cell → Type 0} {n : Counts} {u : Rule} {p : Plan} → Planned C n u p → (x : ℕ) (s : Second) → PlanBreaks C n p x s → Breaks C n u x s
unfolding PlanBreaks
planned-breaks {C} {n} {u} {p} d x None b =
    (b.0, by-alone C n u.nodes u.head p.left p.right x b.0 d.left d.right (subst (λ (h : Head). BreaksBy C (RowHas p.left) (RowHas p.right) h x) d.head b.1))
planned-breaks {C} {n} {u} {p} d x (Some y) b = (b.0, b.1, subst (λ (h : Head). BreaksPair C n h x y.0) d.head b.2)

-- and the other way
pub breaks-planned : {C : Cell → Type 0} {n : Counts} {u : Rule} {p : Plan} → Planned C n u p → (x : ℕ) (s : Second) → Breaks C n u x s → PlanBreaks C n p x s
unfolding PlanBreaks
breaks-planned {C} {n} {u} {p} d x None b =
    (b.0, subst (λ (h : Head). BreaksBy C (RowHas p.left) (RowHas p.right) h x) (sym d.head) (alone-by C n u.nodes u.head p.left p.right x b.0 d.left d.right b.1))
breaks-planned {C} {n} {u} {p} d x (Some y) b = (b.0, b.1, subst (λ (h : Head). BreaksPair C n h x y.0) (sym d.head) b.2)
