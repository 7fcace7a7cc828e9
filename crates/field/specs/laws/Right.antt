-- What is known of fields with nothing wrong. Assumes nothing.
use Rattle.std.proofs.lemmas.Bool.{not-false}
use Rattle.std.specs.Prelude.{◌≡◌, refl, Bool, true, false, not, ◌&&◌, ℕ, zero, suc, ◌≤◌, ◌<◌, leb, length, drop}
use Rattle.std.proofs.Common.{sym, ◌∙◌, true≢false, arith, List, [], ◌∷◌, ◌++◌, ltb-true, ltb-false, leb-false}
use Rattle.text.specs.Bytes.{place}
use Rattle.text.specs.Date.{date_shaped}
use Rattle.text.specs.laws.Dates.{dated_before, shaped_by, no-date-before}
use Rattle.text.specs.Name.{is_name}
use Rattle.store.specs.Layout.{concept_limit, role_limit}
use Rattle.field.specs.declared.Due.{Due}
use Rattle.field.specs.declared.Due.TheVariants as due
use Rattle.field.specs.Due.{fits, is_expr}
use Rattle.field.specs.Names.{Names, declared, fault, field_fault, field_faults, lower_fault, name_fault, new_fault, plain, reserved}
use Rattle.field.specs.Words.{at, Field}
use Rattle.field.specs.own.Table.{Listed, Proper, concept_name}
use Rattle.field.specs.laws.Table.{listed-end, place-one}
use Rattle.field.specs.laws.Names.{lower-both, lower-first, lower-none}

-- ---- nothing applies

pub fault-none : (b : Bool) (k rest : ℕ) → fault b (suc k) rest ≡ 0 → (b ≡ false) × (rest ≡ 0)
fault-none true k rest e = absurd (omega arith)
fault-none false k rest e = (refl, e)

pub lower-zeros : (a b : ℕ) → lower_fault a b ≡ 0 → (a ≡ 0) × (b ≡ 0)
lower-zeros zero b e = (refl, lower-none 0 b refl ∙ e)
lower-zeros (suc a) zero e = absurd (omega (arith, lower-first (suc a) 0 (λ q. omega arith) refl, e))
lower-zeros (suc a) (suc b) e = absurd (omega (arith, lower-both (suc a) (suc b) (λ q. omega arith) (λ q. omega arith), e))

-- a name that can be declared: it is good, there is room for it, and it is none of those that are
pub record New (good : Field → Bool) (room : ℕ) (names : List Field) (f : Field) : Type 0 where
  pub well : good f ≡ true
  pub few : length names < room
  pub out : length names ≤ place f names

-- ---- fields, one after the other

-- fields that are those that are due, with nothing wrong
pub record Right (n : Names) (ds : List Due) (fs : List Field) : Type 0 where
  pub fit : fits ds fs ≡ true
  pub faults : field_faults n ds fs ≡ 0

module _ (n : Names) where
  -- the first field, in a place for a name or a count, and those after it
  pub right-first : (d : Due) (ds : List Due) (fs : List Field) → is_expr d ≡ false → Right n (d ∷ ds) fs → (field_fault n d (at 0 fs) ≡ 0) × Right n ds (drop 1 fs)
  unfolding fits field_faults
  right-first d ds [] e r = absurd (true≢false (sym r.fit))
  right-first d ds (f ∷ fs) e r =
      let z = lower-zeros (field_fault n d f) _ r.faults in
      (z.0, record { fit = rw (e, fits) at r.fit; faults = rw e at z.1 })

  -- a name that is one of those declared
  pub name-declared : (names : List Field) (f : Field) → name_fault names f ≡ 0 → place f names < length names
  unfolding name_fault
  name-declared names f e =
      let a = fault-none (not (is_name f)) 14 (fault (not (declared f names)) 19 0) e in
      ltb-true _ _ (not-false _ (fault-none (not (declared f names)) 18 0 a.1).0)

  new-name : (good : Field → Bool) (room : ℕ) (names : List Field) (f : Field) → good f ≡ true → new_fault room names f ≡ 0 → New good room names f
  unfolding new_fault
  new-name good room names f g e =
      let a = fault-none (declared f names) 16 (fault (leb room (length names)) 18 0) e in
      record { well = g; few = leb-false _ _ (fault-none (leb room (length names)) 17 0 a.1).0; out = ltb-false _ _ a.0 }

  module _ (f : Field) where
    pub item-declared : field_fault n due.Item f ≡ 0 → place f n.items < length n.items
    unfolding field_fault
    item-declared e = name-declared n.items f e

    pub role-declared : field_fault n due.Role f ≡ 0 → place f n.roles < length n.roles
    unfolding field_fault
    role-declared e = name-declared n.roles f e

    pub role-use-declared : field_fault n due.RoleUse f ≡ 0 → place (plain f) n.roles < length n.roles
    unfolding field_fault
    role-use-declared e = name-declared n.roles (plain f) e

    pub concept-declared : field_fault n due.Concept f ≡ 0 → place f n.concepts < length n.concepts
    unfolding field_fault
    concept-declared e = name-declared n.concepts f (fault-none (reserved f) 14 (name_fault n.concepts f) e).1

    name-good : (x y : Bool) → x ≡ true → y ≡ false → (x && not y) ≡ true
    name-good x y g h = rw (g, h)

    pub concept-new : field_fault n due.NewConcept f ≡ 0 → New concept_name concept_limit n.concepts f
    unfolding field_fault
    concept-new e =
        let a = fault-none (not (is_name f)) 14 (fault (reserved f) 15 (new_fault concept_limit n.concepts f)) e in
        let b = fault-none (reserved f) 14 (new_fault concept_limit n.concepts f) a.1 in
        new-name concept_name concept_limit n.concepts f (name-good (is_name f) (reserved f) (not-false _ a.0) b.0) b.1

    pub role-new : field_fault n due.NewRole f ≡ 0 → New is_name role_limit n.roles f
    unfolding field_fault
    role-new e =
        let a = fault-none (not (is_name f)) 14 (new_fault role_limit n.roles f) e in
        new-name is_name role_limit n.roles f (not-false _ a.0) a.1

    pub item-new : field_fault n due.NewItem f ≡ 0 → New is_name n.room n.items f
    unfolding field_fault
    item-new e =
        let a = fault-none (not (is_name f)) 14 (fault (date_shaped f) 16 (new_fault n.room n.items f)) e in
        new-name is_name n.room n.items f (not-false _ a.0) (fault-none (date_shaped f) 15 (new_fault n.room n.items f) a.1).1

    -- a name that a new item could have in document 01, where every month had 31 days, it can have now
    pub item-before : fault (not (is_name f)) 15 (fault (shaped_by dated_before f) 16 (new_fault n.room n.items f)) ≡ 0 → field_fault n due.NewItem f ≡ 0
    unfolding field_fault
    item-before e =
        let a = fault-none (not (is_name f)) 14 (fault (shaped_by dated_before f) 16 (new_fault n.room n.items f)) e in
        let b = fault-none (shaped_by dated_before f) 15 (new_fault n.room n.items f) a.1 in
        rw (a.0, no-date-before f b.0, b.1)

-- ---- the names that declarations leave

module _ {n : Names} (p : Proper n) (f : Field) where
  pub proper-concept : New concept_name concept_limit n.concepts f → Proper (record { concepts = n.concepts ++ (f ∷ []); roles = n.roles; items = n.items; room = n.room })
  proper-concept w = record { concepts = listed-end concept_name f n.concepts p.concepts w.well w.out; roles = p.roles; items = p.items }

  pub proper-role : New is_name role_limit n.roles f → Proper (record { concepts = n.concepts; roles = n.roles ++ (f ∷ []); items = n.items; room = n.room })
  proper-role w = record { concepts = p.concepts; roles = listed-end is_name f n.roles p.roles w.well w.out; items = p.items }

  pub proper-item : New is_name n.room n.items f → Proper (record { concepts = n.concepts; roles = n.roles; items = n.items ++ (f ∷ []); room = n.room })
  proper-item w = record { concepts = p.concepts; roles = p.roles; items = listed-end is_name f n.items p.items w.well w.out }

-- one of the names that are there is good
pub listed-good : (good : Field → Bool) (names : List Field) (f : Field) → Listed good names → place f names < length names → good f ≡ true
listed-good good names f l h = l.all f (place-one f names h)

-- a concept's name is a name and no word
pub concept-name-good : (f : Field) → concept_name f ≡ true → (is_name f ≡ true) × (reserved f ≡ false)
concept-name-good f e = go (is_name f) (reserved f) e
  where
    go : (a b : Bool) → (a && not b) ≡ true → (a ≡ true) × (b ≡ false)
    go true true q = absurd (true≢false (sym q))
    go true false q = (refl, refl)
    go false b q = absurd (true≢false (sym q))
