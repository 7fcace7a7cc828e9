-- The names of a table after one was noted. Assumes nothing.
use Rattle.std.specs.Prelude.{◌≡◌, refl, List, [], ◌∷◌, ◌++◌, ℕ, ◌+◌, ◌≤◌, ◌<◌, length, set}
use Rattle.std.proofs.Common.{sym, subst, arith, length-set, get_or-set_same}
use Rattle.logic.specs.laws.Number.{one_none}
use Rattle.text.specs.Name.{is_name}
use Rattle.store.specs.declared.Counts.{Counts}
use Rattle.store.specs.Layout.{concept_limit, item_limit, large, role_limit}
use Rattle.field.specs.Names.{Names}
use Rattle.field.specs.Words.{Field}
use Rattle.field.specs.own.Table.{AllHinted, Noted, Proper, Table, Tidy, concept_name, concepts_from, hint_at, items_from, name_at, names_of, roles_from, room_at, room_of, table_of}
use Rattle.field.specs.laws.Right.{New, proper-concept, proper-item, proper-role}
use Rattle.field.specs.laws.Table.{entered-length, hinted-end, hinted-still, listed-none, noted-after, noted-before, noted-own, noted-room}

-- no names
abbrev pub no_counts : Counts
no_counts = record { items = 0; concepts = 0; roles = 0 }

abbrev pub no_names : ℕ → Names
no_names room = record { concepts = []; roles = []; items = []; room = room }

-- one name more
abbrev pub more_concepts : Counts → Counts
more_concepts c = record { items = c.items; concepts = c.concepts + 1; roles = c.roles }

abbrev pub more_roles : Counts → Counts
more_roles c = record { items = c.items; concepts = c.concepts; roles = c.roles + 1 }

abbrev pub more_items : Counts → Counts
more_items c = record { items = c.items + 1; concepts = c.concepts; roles = c.roles }

abbrev pub add_concept : Names → Field → Names
add_concept n f = record { concepts = n.concepts ++ (f ∷ []); roles = n.roles; items = n.items; room = n.room }

abbrev pub add_role : Names → Field → Names
add_role n f = record { concepts = n.concepts; roles = n.roles ++ (f ∷ []); items = n.items; room = n.room }

abbrev pub add_item : Names → Field → Names
add_item n f = record { concepts = n.concepts; roles = n.roles; items = n.items ++ (f ∷ []); room = n.room }

-- the table has these names, and is as declarations leave it
pub record Declared (sheet : List ℕ) (u : Table) (n : Names) : Type 0 where
  pub names : names_of sheet u ≡ n
  pub tidy : Tidy sheet u

-- numbers without names, whatever they are
pub none-tidy : (sheet numbers : List ℕ) → items_from ≤ length numbers → Tidy sheet (table_of numbers no_counts)
none-tidy sheet numbers h =
    record {
      long = omega (arith, h);
      room = record { items = omega arith; concepts = omega arith; roles = omega arith };
      proper = record { concepts = listed-none concept_name; roles = listed-none is_name; items = listed-none is_name };
      hinted = record { concepts = λ w o. absurd (one_none o); roles = λ w o. absurd (one_none o); items = λ w o. absurd (one_none o) };
    }

-- numbers without names, after it was noted how many items there is room for
pub opened : (sheet numbers : List ℕ) (room : ℕ) → items_from ≤ length numbers → Declared sheet (table_of (set numbers room_at room) no_counts) (no_names room)
opened sheet numbers room h =
    record {
      names = rw (get_or-set_same numbers room_at room 0 (omega (arith, h)));
      tidy = none-tidy sheet (set numbers room_at room) (omega (arith, h, length-set numbers room_at room));
    }

abbrev pub DeclaredConcept : List ℕ → Table → Field → List ℕ → Type 0
DeclaredConcept sheet t f numbers = Declared sheet (table_of numbers (more_concepts t.counts)) (add_concept (names_of sheet t) f)

abbrev pub DeclaredRole : List ℕ → Table → Field → List ℕ → Type 0
DeclaredRole sheet t f numbers = Declared sheet (table_of numbers (more_roles t.counts)) (add_role (names_of sheet t) f)

abbrev pub DeclaredItem : List ℕ → Table → Field → List ℕ → Type 0
DeclaredItem sheet t f numbers = Declared sheet (table_of numbers (more_items t.counts)) (add_item (names_of sheet t) f)

module _ {sheet : List ℕ} {t : Table} (y : Tidy sheet t) (f : Field) (p : ℕ) (is : name_at sheet p ≡ f) {numbers : List ℕ} where
  -- one concept more
  pub declared-concept : Noted t.numbers (concepts_from + t.counts.concepts) p (hint_at concepts_from f) numbers → New concept_name concept_limit (names_of sheet t).concepts f → DeclaredConcept sheet t f numbers
  declared-concept d w =
      let c = t.counts in
      let few : c.concepts < concept_limit = omega (arith, w.few, entered-length sheet t.numbers concepts_from c.concepts (omega (arith, y.long, y.room.concepts))) in
      let names : names_of sheet (table_of numbers (more_concepts c)) ≡ add_concept (names_of sheet t) f =
      rw (
        noted-own sheet t.numbers (concepts_from + c.concepts) p (hint_at concepts_from f) numbers d concepts_from c.concepts (omega arith) refl (omega (arith, few, y.long)),
        noted-after sheet t.numbers (concepts_from + c.concepts) p (hint_at concepts_from f) numbers d roles_from c.roles (omega arith) (omega (arith, few)),
        noted-after sheet t.numbers (concepts_from + c.concepts) p (hint_at concepts_from f) numbers d items_from c.items (omega arith) (omega (arith, few)),
        noted-room sheet t.numbers (concepts_from + c.concepts) p (hint_at concepts_from f) numbers d (λ e. omega (arith, few, e)),
        is,
      ) in
      record {
        names = names;
        tidy =
            record {
              long = omega (arith, d.long, y.long);
              room = record { items = y.room.items; concepts = omega (arith, few); roles = y.room.roles };
              proper = subst (λ (n : Names). Proper n) (sym names) (proper-concept y.proper f w);
              hinted = subst (λ (n : Names). AllHinted numbers n) (sym names) (record { concepts = hinted-end t.numbers numbers concepts_from (names_of sheet t).concepts f y.hinted.concepts d.still d.here; roles = hinted-still t.numbers numbers roles_from (names_of sheet t).roles y.hinted.roles d.still; items = hinted-still t.numbers numbers items_from (names_of sheet t).items y.hinted.items d.still });
            };
      }

  -- one role more
  pub declared-role : Noted t.numbers (roles_from + t.counts.roles) p (hint_at roles_from f) numbers → New is_name role_limit (names_of sheet t).roles f → DeclaredRole sheet t f numbers
  declared-role d w =
      let c = t.counts in
      let few : c.roles < role_limit = omega (arith, w.few, entered-length sheet t.numbers roles_from c.roles (omega (arith, y.long, y.room.roles))) in
      let names : names_of sheet (table_of numbers (more_roles c)) ≡ add_role (names_of sheet t) f =
      rw (
        noted-before sheet t.numbers (roles_from + c.roles) p (hint_at roles_from f) numbers d concepts_from c.concepts (omega arith) (omega (arith, y.room.concepts)),
        noted-own sheet t.numbers (roles_from + c.roles) p (hint_at roles_from f) numbers d roles_from c.roles (omega arith) refl (omega (arith, few, y.long)),
        noted-after sheet t.numbers (roles_from + c.roles) p (hint_at roles_from f) numbers d items_from c.items (omega arith) (omega (arith, few)),
        noted-room sheet t.numbers (roles_from + c.roles) p (hint_at roles_from f) numbers d (λ e. omega (arith, few, e)),
        is,
      ) in
      record {
        names = names;
        tidy =
            record {
              long = omega (arith, d.long, y.long);
              room = record { items = y.room.items; concepts = y.room.concepts; roles = omega (arith, few) };
              proper = subst (λ (n : Names). Proper n) (sym names) (proper-role y.proper f w);
              hinted = subst (λ (n : Names). AllHinted numbers n) (sym names) (record { concepts = hinted-still t.numbers numbers concepts_from (names_of sheet t).concepts y.hinted.concepts d.still; roles = hinted-end t.numbers numbers roles_from (names_of sheet t).roles f y.hinted.roles d.still d.here; items = hinted-still t.numbers numbers items_from (names_of sheet t).items y.hinted.items d.still });
            };
      }

  -- one item more, where the numbers have a place for each that there is room for, and the larger store has room for as many
  pub declared-item : items_from + room_of t.numbers ≤ length t.numbers → room_of t.numbers ≤ item_limit large → Noted t.numbers (items_from + t.counts.items) p (hint_at items_from f) numbers
      → New is_name (names_of sheet t).room (names_of sheet t).items f → DeclaredItem sheet t f numbers
  declared-item place most d w =
      let c = t.counts in
      let few : c.items < room_of t.numbers = omega (arith, w.few, entered-length sheet t.numbers items_from c.items y.long) in
      let names : names_of sheet (table_of numbers (more_items c)) ≡ add_item (names_of sheet t) f =
      rw (
        noted-before sheet t.numbers (items_from + c.items) p (hint_at items_from f) numbers d concepts_from c.concepts (omega arith) (omega (arith, y.room.concepts)),
        noted-before sheet t.numbers (items_from + c.items) p (hint_at items_from f) numbers d roles_from c.roles (omega arith) (omega (arith, y.room.roles)),
        noted-own sheet t.numbers (items_from + c.items) p (hint_at items_from f) numbers d items_from c.items (omega arith) refl (omega (arith, few, place)),
        noted-room sheet t.numbers (items_from + c.items) p (hint_at items_from f) numbers d (λ e. omega (arith, e)),
        is,
      ) in
      record {
        names = names;
        tidy =
            record {
              long = omega (arith, d.long, few, place);
              room = record { items = omega (arith, few, most); concepts = y.room.concepts; roles = y.room.roles };
              proper = subst (λ (n : Names). Proper n) (sym names) (proper-item y.proper f w);
              hinted = subst (λ (n : Names). AllHinted numbers n) (sym names) (record { concepts = hinted-still t.numbers numbers concepts_from (names_of sheet t).concepts y.hinted.concepts d.still; roles = hinted-still t.numbers numbers roles_from (names_of sheet t).roles y.hinted.roles d.still; items = hinted-end t.numbers numbers items_from (names_of sheet t).items f y.hinted.items d.still d.here });
            };
      }
