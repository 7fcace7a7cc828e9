-- Laws of what the reader's records and the store stand for. Assumes nothing.
use Rattle.std.specs.Prelude.{◌≡◌, refl, ◌⊎◌, Bool, true, false, not, ◌||◌, List, [], ◌∷◌, ◌++◌, map, ℕ, ◌+◌, ◌≤◌, ◌<◌, ltb, length, replicate}
use Rattle.std.proofs.Common.{sym, ◌∙◌, ap, subst, inl, inr, true≢false, arith, lt-ltb, length-append}
use Rattle.logic.specs.Number.{One}
use Rattle.logic.specs.Number.One.{first, later}
use Rattle.logic.specs.laws.Number.{one_none}
use Rattle.store.specs.declared.Counts.{Counts}
use Rattle.store.specs.declared.Statement.{Statement}
use Rattle.store.specs.Cell.{Cell, Nothing, With, cell_of}
use Rattle.store.specs.Cell.With.{old, new}
use Rattle.store.specs.Layout.{Fits, Holds, item_limit, size}
use Rattle.closure.specs.Lines.{Stated}
use Rattle.closure.specs.Lines.Stated.{stated}
use Rattle.store.specs.Keeps.{Keeps}
use Rattle.store.specs.laws.Keeps.{keeps-iff, keeps-step}
use Rattle.field.specs.declared.Form.TheVariants as form
use Rattle.line.specs.declared.Marks.{Marks}
use Rattle.field.specs.declared.RuleWord.{RuleWord}
use Rattle.field.specs.declared.StatementWord.{StatementWord}
use Rattle.field.specs.Due.{none}
use Rattle.line.specs.Fault.{begun, rule_limit}
use Rattle.field.specs.Names.{Names, counts_of}
use Rattle.sheet.specs.Promise.{Stopped}
use Rattle.field.specs.Words.{at, Field}
use Rattle.sheet.specs.Said.{Said, StatedIn, saying}
use Rattle.stated.specs.Stated.{statement_of}
use Rattle.sheet.specs.own.Stands.{Begins, Stands}
use Rattle.field.specs.own.Table.{Table, names_of, room_of, table_of}
use Rattle.field.specs.laws.Table.{counts_of-names_of}
use Rattle.field.specs.laws.Declared.{Declared, DeclaredConcept, DeclaredItem, DeclaredRole, add_concept, add_item, add_role, more_concepts, more_items, more_roles}
use Rattle.sheet.specs.laws.Settled.{none_last}

-- ---- the store

-- the words before the first statement or rule
pub stopped-zero : (W : ℕ) (b : Bool) (x : Said) (s : List ℕ) → Stopped W b x s → b ≡ false → s ≡ replicate (size W) 0
stopped-zero W true x s h e = absurd (true≢false e)
stopped-zero W false x s h e = h

-- a fresh store holds what follows from no statement
pub keeps-none : {W : ℕ} {n : Counts} {s : List ℕ} → Keeps W n Nothing s → Keeps W n (Stated []) s
keeps-none k = keeps-iff (λ c x. absurd x) none-stated k
  where
    none-stated : (c : Cell) → Stated [] c → Nothing c
    none-stated c (stated o) = one_none o

pub one-before : {A : Type 0} {x : A} {xs : List A} (y : A) → One x xs → One x (xs ++ y ∷ [])
one-before y first = first
one-before y (later o) = later (one-before y o)

pub one_last : {A : Type 0} (y : A) (xs : List A) → One y (xs ++ y ∷ [])
one_last y [] = first
one_last y (x ∷ xs) = later (one_last y xs)

pub one_split : {A : Type 0} {x y : A} (xs : List A) → One x (xs ++ y ∷ []) → One x xs ⊎ (x ≡ y)
one_split [] first = inr refl
one_split [] (later o) = absurd (one_none o)
one_split (z ∷ xs) first = inl first
one_split (z ∷ xs) (later o) = push (one_split xs o)
  where
    push : {A : Type 0} {x y z : A} {xs : List A} → One x xs ⊎ (x ≡ y) → One x (z ∷ xs) ⊎ (x ≡ y)
    push (inl o) = inl (later o)
    push (inr e) = inr e

-- one statement more
keeps-more : {W : ℕ} {n : Counts} {xs : List Statement} {s t : List ℕ} (x : Statement) → Keeps W n (Stated xs) s → Keeps W n (With (Holds W n s) (cell_of x)) t → Keeps W n (Stated (xs ++ x ∷ [])) t
keeps-more {W} {n} {xs} {s} x k l = keeps-iff to from (keeps-step k l)
  where
    to : (c : Cell) → With (Stated xs) (cell_of x) c → Stated (xs ++ x ∷ []) c
    to c (old (stated o)) = stated (one-before x o)
    to c new = stated (one_last x xs)

    from-line : {y : Statement} → One y xs ⊎ (y ≡ x) → With (Stated xs) (cell_of x) (cell_of y)
    from-line (inl o) = old (stated o)
    from-line (inr e) = subst (λ (y : Statement). With (Stated xs) (cell_of x) (cell_of y)) (sym e) new

    from : (c : Cell) → Stated (xs ++ x ∷ []) c → With (Stated xs) (cell_of x) c
    from c (stated o) = from-line (one_split xs o)

-- begun before, or made fresh now
pub begins-same : (W : ℕ) (b : Bool) (n : Counts) (s : List ℕ) → b ≡ true → Begins W b n s s
begins-same W true n s e = refl
begins-same W false n s e = absurd (true≢false (sym e))

pub begins-fresh : (W : ℕ) (b : Bool) (n : Counts) (s t : List ℕ) → b ≡ false → Keeps W n Nothing t → Begins W b n s t
begins-fresh W true n s t e k = absurd (true≢false e)
begins-fresh W false n s t e k = k

-- one more at the end
pub map_last : {A B : Type 0} (f : A → B) (xs : List A) (y : A) → map f (xs ++ y ∷ []) ≡ map f xs ++ f y ∷ []
map_last f [] y = refl
map_last f (x ∷ xs) y = ap (◌∷◌ (f x)) (map_last f xs y)

-- ---- what stands for what was said, after one line more

none-nil : {A : Type 0} (xs : List A) → none xs ≡ true → xs ≡ []
none-nil [] e = refl
none-nil (x ∷ xs) e = absurd (true≢false (sym e))

not-begun : (m : Marks) → begun m ≡ false → m.stated ≡ false
not-begun m e = go m.stated e
  where
    go : (b : Bool) → (b || ltb 0 m.rules) ≡ false → b ≡ false
    go true q = q
    go false q = refl

module _ {W : ℕ} {sheet : List ℕ} {t : Table} {m : Marks} {s : List ℕ} {x : Said} (st : Stands W sheet t m s x) where
  counted : counts_of x.names ≡ t.counts
  counted = rw st.names (counts_of-names_of sheet t st.tidy)

  -- the counts are within the limits of the store
  pub stands-fits : Fits W t.counts
  stands-fits = record { items = omega (arith, st.items, st.room); concepts = st.tidy.room.concepts; roles = st.tidy.room.roles }

  no-statements : begun m ≡ false → x.statements ≡ []
  no-statements e = none-nil x.statements (flip (none x.statements) (ap (λ (n : Marks). n.stated) st.marks ∙ not-begun m e))
    where
      flip : (b : Bool) → not b ≡ false → b ≡ true
      flip true q = refl
      flip false q = sym q

  -- the store once it has begun
  pub begun-keeps : {s1 : List ℕ} → Begins W (begun m) t.counts s s1 → Keeps W t.counts (StatedIn x) s1
  begun-keeps {s1} b = go (begun m) refl st.store b
    where
      go : (c : Bool) → begun m ≡ c → Stopped W c x s → Begins W c t.counts s s1 → Keeps W t.counts (StatedIn x) s1
      go true e h q = rw (q, ← counted) h
      go false e h q = rw (no-statements e) (keeps-none q)

  pub stands-statement : (k : ℕ) (w : StatementWord) (fs : List Field) {s1 s2 : List ℕ} → Begins W (begun m) t.counts s s1
      → Keeps W t.counts (With (Holds W t.counts s1) (cell_of (statement_of (names_of sheet t) w fs))) s2
      → Stands W sheet t (record { stated = true; rules = m.rules }) s2 (saying k x (form.Statement w) fs)
  stands-statement k w fs {s1} {s2} b kept =
      record {
        names = st.names;
        marks = rw (none_last x.statements (record { line = k; statement = statement_of x.names w fs }), ap (λ (n : Marks). n.rules) st.marks);
        tidy = st.tidy;
        few = st.few;
        long = kept.store.long;
        items = st.items;
        room = st.room;
        places = st.places;
        store = rw (counted, st.names, map_last) (keeps-more (statement_of (names_of sheet t) w fs) (begun-keeps b) kept);
      }

  pub stands-rule : (k : ℕ) (w : RuleWord) (fs : List Field) {s1 : List ℕ} → m.rules < rule_limit → Begins W (begun m) t.counts s s1
      → Stands W sheet t (record { stated = m.stated; rules = m.rules + 1 }) s1 (saying k x (form.Rule w) fs)
  stands-rule k w fs {s1} h b =
      record {
        names = st.names;
        marks = rw (ap (λ (n : Marks). n.stated) st.marks, length-append) (rw (ap (λ (n : Marks). n.rules) st.marks));
        tidy = st.tidy;
        few = omega arith;
        long = (begun-keeps b).store.long;
        items = st.items;
        room = st.room;
        places = st.places;
        store = on (m.stated || ltb 0 (m.rules + 1)) (either m.stated);
      }
    where
      either : (b : Bool) → (b || ltb 0 (m.rules + 1)) ≡ true
      either true = refl
      either false = lt-ltb 0 (m.rules + 1) (omega arith)

      on : (c : Bool) → c ≡ true → Stopped W c (saying k x (form.Rule w) fs) s1
      on true e = rw counted (begun-keeps b)
      on false e = absurd (true≢false (sym e))

  -- where nothing has begun, the store is as it was
  untouched : (y : Said) → begun m ≡ false → Stopped W (begun m) y s
  untouched y e = go (begun m) e st.store
    where
      go : (c : Bool) → c ≡ false → Stopped W c x s → Stopped W c y s
      go true q h = absurd (true≢false q)
      go false q h = h

  -- the numbers after a declaration: they have the room that they had
  module _ {u : Table} {n : Names} (d : Declared sheet u n) (e : n.room ≡ room_of t.numbers) where
    same-room : room_of u.numbers ≡ room_of t.numbers
    same-room = ap (λ (z : Names). z.room) d.names ∙ e

    still-room : room_of u.numbers ≤ item_limit W
    still-room = omega (arith, same-room, st.room)

  -- after a declaration: the names and the numbers with one more
  module _ (k : ℕ) (fs : List Field) (e : begun m ≡ false) {numbers : List ℕ} (l : length numbers ≡ length t.numbers) where
    pub stands-concept : DeclaredConcept sheet t (at 0 fs) numbers → Stands W sheet (table_of numbers (more_concepts t.counts)) m s (saying k x form.Concept fs)
    stands-concept d =
        record {
          names = ap (λ (n : Names). add_concept n (at 0 fs)) st.names ∙ sym d.names;
          marks = st.marks;
          tidy = d.tidy;
          few = st.few;
          long = st.long;
          items = omega (arith, same-room d refl, st.items);
          room = still-room d refl;
          places = omega (arith, l, st.places);
          store = untouched (saying k x form.Concept fs) e;
        }

    pub stands-role : DeclaredRole sheet t (at 0 fs) numbers → Stands W sheet (table_of numbers (more_roles t.counts)) m s (saying k x form.Role fs)
    stands-role d =
        record {
          names = ap (λ (n : Names). add_role n (at 0 fs)) st.names ∙ sym d.names;
          marks = st.marks;
          tidy = d.tidy;
          few = st.few;
          long = st.long;
          items = omega (arith, same-room d refl, st.items);
          room = still-room d refl;
          places = omega (arith, l, st.places);
          store = untouched (saying k x form.Role fs) e;
        }

    pub stands-item : t.counts.items < room_of t.numbers → DeclaredItem sheet t (at 0 fs) numbers → Stands W sheet (table_of numbers (more_items t.counts)) m s (saying k x form.Item fs)
    stands-item h d =
        record {
          names = ap (λ (n : Names). add_item n (at 0 fs)) st.names ∙ sym d.names;
          marks = st.marks;
          tidy = d.tidy;
          few = st.few;
          long = st.long;
          items = omega (arith, same-room d refl, h);
          room = still-room d refl;
          places = omega (arith, l, st.places);
          store = untouched (saying k x form.Item fs) e;
        }
