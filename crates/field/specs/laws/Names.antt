-- Laws of names, counts and of what is wrong with a field. Assumes nothing.
use Rattle.std.specs.Prelude.{◌≡◌, true, false, not, List, ℕ, zero, suc, ◌-◌, ◌≤◌, min, leb, ltb, length, get_or, drop}
use Rattle.std.proofs.Math.Path.{refl}
use Rattle.std.proofs.Common.{sym, arith, length-drop, take_all, eq-eqb, ne_eqb}
use Rattle.std.proofs.Math.ListN.{get_or-eq_default}
use Rattle.text.specs.own.Split.{part_of}
use Rattle.text.specs.Date.{digit, date_shaped}
use Rattle.text.specs.Name.{is_name}
use Rattle.store.specs.Layout.{concept_limit, role_limit}
use Rattle.rule.specs.Form.{count_limit}
use Rattle.field.specs.declared.Due.TheVariants as due
use Rattle.field.specs.Names.{Names, reserved, inverted, plain, count_of, is_count, fault, new_fault, name_fault, field_fault, lower_fault}
use Rattle.field.specs.own.Table.{Placed}
use Rattle.field.specs.Words.{Field}

-- ---- the first byte of a field

module _ (f : Field) where
  head-none : length f ≤ 0 → get_or f 0 0 ≡ 0
  head-none h = get_or-eq_default f 0 h

  pub inverted-none : length f ≤ 0 → false ≡ inverted f
  inverted-none h = rw (head-none h)

  pub count_none : length f ≤ 0 → 255 ≡ count_of f
  unfolding digit
  count_none h = rw (head-none h)

  pub plain-inverted : inverted f ≡ true → part_of f 1 (length f) ≡ plain f
  plain-inverted e = rw e (take_all (length f) (drop 1 f) (omega (arith, length-drop 1 f)))

  pub plain-itself : inverted f ≡ false → f ≡ plain f
  plain-itself e = rw e

-- ---- what is wrong with a name

module _ (f : Field) (names : List Field) (n k : ℕ) (p : Placed f names n k) where
  pub new-at : (room : ℕ) → fault (ltb k n) 17 (fault (leb room n) 18 0) ≡ new_fault room names f
  unfolding new_fault
  new-at room = rw (p.count, ← p.place)

  pub old-at : fault (not (is_name f)) 15 (fault (not (ltb k n)) 19 0) ≡ name_fault names f
  unfolding name_fault
  old-at = rw (p.count, ← p.place)

-- ---- what is wrong with a field, by what is due in it

module _ (n : Names) (f : Field) where
  pub new-concept-none : not (is_name f) ≡ true → 15 ≡ field_fault n due.NewConcept f
  unfolding field_fault
  new-concept-none e = rw e

  pub new-concept-word : not (is_name f) ≡ false → reserved f ≡ true → 15 ≡ field_fault n due.NewConcept f
  unfolding field_fault
  new-concept-word e g = rw (e, g)

  pub new-concept-name : not (is_name f) ≡ false → reserved f ≡ false → new_fault concept_limit n.concepts f ≡ field_fault n due.NewConcept f
  unfolding field_fault
  new-concept-name e g = rw (e, g)

  pub new-role-none : not (is_name f) ≡ true → 15 ≡ field_fault n due.NewRole f
  unfolding field_fault
  new-role-none e = rw e

  pub new-role-name : not (is_name f) ≡ false → new_fault role_limit n.roles f ≡ field_fault n due.NewRole f
  unfolding field_fault
  new-role-name e = rw e

  pub new-item-none : not (is_name f) ≡ true → 15 ≡ field_fault n due.NewItem f
  unfolding field_fault
  new-item-none e = rw e

  pub new-item-date : not (is_name f) ≡ false → date_shaped f ≡ true → 16 ≡ field_fault n due.NewItem f
  unfolding field_fault
  new-item-date e g = rw (e, g)

  pub new-item-name : not (is_name f) ≡ false → date_shaped f ≡ false → new_fault n.room n.items f ≡ field_fault n due.NewItem f
  unfolding field_fault
  new-item-name e g = rw (e, g)

  pub concept-word : reserved f ≡ true → 15 ≡ field_fault n due.Concept f
  unfolding field_fault
  concept-word e = rw e

  pub concept-name : reserved f ≡ false → name_fault n.concepts f ≡ field_fault n due.Concept f
  unfolding field_fault
  concept-name e = rw e

  pub expr-word : reserved f ≡ true → 0 ≡ field_fault n due.Expr f
  unfolding field_fault
  expr-word e = rw e

  pub expr-name : reserved f ≡ false → name_fault n.concepts f ≡ field_fault n due.Expr f
  unfolding field_fault
  expr-name e = rw e

  pub role-name : name_fault n.roles f ≡ field_fault n due.Role f
  unfolding field_fault
  role-name = refl

  pub role-use-name : field_fault n due.Role (plain f) ≡ field_fault n due.RoleUse f
  unfolding field_fault
  role-use-name = refl

  pub item-name : name_fault n.items f ≡ field_fault n due.Item f
  unfolding field_fault
  item-name = refl

  pub least-count : fault (not (is_count 1 count_limit f)) 20 0 ≡ field_fault n due.AtLeast f
  unfolding field_fault
  least-count = refl

  pub most-count : fault (not (is_count 0 (count_limit - 1) f)) 20 0 ≡ field_fault n due.AtMost f
  unfolding field_fault
  most-count = refl

  pub nothing-due : 0 ≡ field_fault n due.Nothing f
  unfolding field_fault
  nothing-due = refl

-- ---- the lower of two

module _ (a b : ℕ) where
  pub lower-none : a ≡ 0 → b ≡ lower_fault a b
  unfolding lower_fault
  lower-none e = rw (eq-eqb _ _ e)

  pub lower-first : (a ≡ 0 → ⊥) → b ≡ 0 → a ≡ lower_fault a b
  unfolding lower_fault
  lower-first e g = rw (ne_eqb _ _ e, eq-eqb _ _ g)

  pub lower-both : (a ≡ 0 → ⊥) → (b ≡ 0 → ⊥) → min a b ≡ lower_fault a b
  unfolding lower_fault
  lower-both e g = rw (ne_eqb _ _ e, ne_eqb _ _ g)

-- of three, whichever two are taken first
pub lower-assoc : (a b d : ℕ) → lower_fault (lower_fault a b) d ≡ lower_fault a (lower_fault b d)
lower-assoc zero b d = rw (← lower-none zero b refl) (lower-none zero (lower_fault b d) refl)
lower-assoc (suc a) zero d = rw (← lower-first (suc a) zero (λ q. omega arith) refl, ← lower-none zero d refl)
lower-assoc (suc a) (suc b) zero =
    let p : lower_fault (suc a) (suc b) ≡ min (suc a) (suc b) = sym (lower-both (suc a) (suc b) (λ q. omega arith) (λ q. omega arith)) in
    rw (p, ← lower-first (suc b) zero (λ q. omega arith) refl, p) (sym (lower-first (min (suc a) (suc b)) zero (λ q. omega arith) refl))
lower-assoc (suc a) (suc b) (suc d) =
    let p : lower_fault (suc a) (suc b) ≡ min (suc a) (suc b) = sym (lower-both (suc a) (suc b) (λ q. omega arith) (λ q. omega arith)) in
    let r : lower_fault (suc b) (suc d) ≡ min (suc b) (suc d) = sym (lower-both (suc b) (suc d) (λ q. omega arith) (λ q. omega arith)) in
    let v : lower_fault (min (suc a) (suc b)) (suc d) ≡ min (min (suc a) (suc b)) (suc d) = sym (lower-both (min (suc a) (suc b)) (suc d) (λ q. omega arith) (λ q. omega arith)) in
    let w : lower_fault (suc a) (min (suc b) (suc d)) ≡ min (suc a) (min (suc b) (suc d)) = sym (lower-both (suc a) (min (suc b) (suc d)) (λ q. omega arith) (λ q. omega arith)) in
    rw (p, r, v, w) (omega arith)
