-- Laws of taking a line without a fault. Assumes nothing.
use Rattle.std.specs.Prelude.{◌≡◌, refl, true, false, List, [], ◌∷◌, ℕ, ◌+◌, ◌≤◌, ◌<◌, length, drop}
use Rattle.std.proofs.Common.{sym, ap, ◌∙◌, true≢false, arith, leb-false, get_or-drop}
use Rattle.text.specs.Name.{is_name}
use Rattle.text.specs.Split.{fields}
use Rattle.reader.specs.own.Scan.{start_by}
use Rattle.reader.specs.laws.Ends.{field-length, field-text, line-inside, room-between}
use Rattle.text.specs.laws.Name.{name-bounds}
use Rattle.text.specs.laws.Split.{end-le}
use Rattle.store.specs.Layout.{concept_limit, item_limit, large, role_limit}
use Rattle.field.specs.declared.Due.{Due}
use Rattle.field.specs.declared.Due.TheVariants as due
use Rattle.field.specs.declared.Form.{Form}
use Rattle.field.specs.declared.Form.TheVariants as form
use Rattle.line.specs.declared.Marks.{Marks}
use Rattle.field.specs.declared.RuleWord.{RuleWord}
use Rattle.field.specs.declared.StatementWord.{StatementWord}
use Rattle.field.specs.Due.{is_expr, lineup_of, none}
use Rattle.line.specs.Fault.{begun, rule_limit}
use Rattle.field.specs.Names.{field_fault}
use Rattle.field.specs.Words.{at, Field, body_of, form_of}
use Rattle.sheet.specs.Said.{Said, line_said, saying}
use Rattle.sheet.specs.own.Stands.{Begins, Declaration, Stands, Takes}
use Rattle.field.specs.own.Line.{Looked, words_of}
use Rattle.field.specs.own.Table.{Noted, Table, Tidy, concept_name, concepts_from, entry_of, hint_at, items_from, name_at, names_of, place_count, roles_from, room_of, table_of}
use Rattle.line.proofs.laws.Accepted.{Accepted, line-accepted}
use Rattle.field.specs.laws.Declared.{declared-concept, declared-item, declared-role, more_concepts, more_items, more_roles}
use Rattle.field.specs.laws.Right.{New, concept-name-good, concept-new, item-new, right-first, role-new}
use Rattle.field.specs.laws.Entry.{entry-name}
use Rattle.field.specs.laws.Table.{entered-length}
use Rattle.field.specs.laws.Words.{body-words}
use Rattle.sheet.specs.laws.Stands.{stands-concept, stands-item, stands-role, stands-rule}

-- an empty line says nothing
pub said-empty : (k : ℕ) (x : Said) (line : List ℕ) → length line ≡ 0 → line_said k x line ≡ x
unfolding line_said
said-empty k x [] h = refl
said-empty k x (b ∷ line) h = absurd (omega arith)

pub some-line : (line : List ℕ) → (length line ≡ 0 → ⊥) → none line ≡ false
some-line [] h = absurd (h refl)
some-line (b ∷ line) h = refl

-- its bytes have places that an entry can tell
pub line-near : {W : ℕ} {sheet : List ℕ} {t : Table} {m : Marks} {s : List ℕ} {start : ℕ} {line : List ℕ} → Takes W sheet t m s start line → start + length line < place_count
line-near {sheet} {start = start} tk = omega (arith, ap length tk.is, line-inside sheet start tk.inside, end-le 10 sheet start tk.inside, tk.short)

-- a line that is not empty, without a fault; its form is f
module _ {W : ℕ} {sheet : List ℕ} {t : Table} {m : Marks} {s : List ℕ} {start : ℕ} {line : List ℕ} (tk : Takes W sheet t m s start line) (some : none line ≡ false) (f : Form) (is : f ≡ form_of (fields line)) where
  said-by : (k : ℕ) (x : Said) → line_said k x line ≡ saying k x f (body_of (fields line))
  unfolding line_said
  said-by k x = rw (some, is)

  -- what is shown of what its form says holds of what the line says
  by_form : {t' : Table} {m' : Marks} {s' : List ℕ} (k : ℕ) (x : Said) → Stands W sheet t' m' s' (saying k x f (body_of (fields line))) → Stands W sheet t' m' s' (line_said k x line)
  by_form k x h = rw (said-by k x) h

  accepted : Accepted (names_of sheet t) m f (body_of (fields line))
  accepted = rw is (line-accepted (names_of sheet t) m line some tk.right).1

  known : form_of (fields line) ≡ form.Unknown → ⊥
  known e = true≢false (rw (is ∙ e) at accepted.known)

  -- its fields after its words
  after-words : drop (words_of f) (fields line) ≡ body_of (fields line)
  after-words = rw is (body-words (fields line) known)

  tidy : Tidy sheet t
  tidy = tk.stands.tidy

  -- ---- declarations: one word, and one name

  module _ (one_word : words_of f ≡ 1) (d : Due) (one : lineup_of f (length (body_of (fields line))) ≡ d ∷ []) (plain : is_expr d ≡ false) where
    named-at : at 0 (body_of (fields line)) ≡ at 1 (fields line)
    named-at = ap (at 0) (sym after-words) ∙ ap (λ (k : ℕ). at 0 (drop k (fields line))) one_word ∙ get_or-drop 1 (fields line) 0 []

    new-fault : field_fault (names_of sheet t) d (at 1 (fields line)) ≡ 0
    new-fault = rw (← named-at) (right-first (names_of sheet t) d [] (body_of (fields line)) plain (rw one at accepted.right)).0

  -- a second field that is a name is there
  declaration : is_name (at 1 (fields line)) ≡ true → Declaration line
  declaration good = record { two = go (fields line) (name-bounds (at 1 (fields line)) good).0; named = good }
    where
      go : (fs : List Field) → 1 ≤ length (at 1 fs) → 2 ≤ length fs
      go [] h = absurd (omega arith)
      go (w ∷ []) h = absurd (omega arith)
      go (w ∷ v ∷ fs) h = omega arith

  -- its entry
  entry-is : (ends : List ℕ) → Looked line ends → is_name (at 1 (fields line)) ≡ true → name_at sheet (entry_of (at 1 (fields line)) (start + start_by 0 ends 1)) ≡ at 1 (fields line)
  entry-is ends v good =
      let two = (declaration good).two in
      let inside : start_by 0 ends 1 + length (at 1 (fields line)) ≤ length line = omega (arith, field-length line ends v.ended 1 (omega arith) (omega (arith, v.count)), (room-between line ends v.ended 1 (omega arith) (omega (arith, v.count))).high) in
      let long : start + length line ≤ length sheet = omega (arith, ap length tk.is, line-inside sheet start tk.inside, end-le 10 sheet start tk.inside) in
      entry-name sheet (at 1 (fields line)) (start + start_by 0 ends 1) good (omega (arith, (name-bounds (at 1 (fields line)) good).0, tk.short))
      (rw (← tk.is) at (field-text sheet start ends tk.inside (rw tk.is at v.ended) 1 (rw (← tk.is) (omega arith)) (omega (arith, v.count))))

  module _ (told : f ≡ form.Concept) where
    concept-name : New concept_name concept_limit (names_of sheet t).concepts (at 1 (fields line))
    concept-name = concept-new (names_of sheet t) (at 1 (fields line)) (new-fault (rw told) due.NewConcept (rw told) refl)

    pub concept-declared : Declaration line
    concept-declared = declaration (concept-name-good (at 1 (fields line)) concept-name.well).0

    pub concept-room : t.counts.concepts < concept_limit
    concept-room = omega (arith, concept-name.few, entered-length sheet t.numbers concepts_from t.counts.concepts (omega (arith, tidy.long, tidy.room.concepts)))

    pub concept-taken : (ends numbers : List ℕ) → Looked line ends → Noted t.numbers (concepts_from + t.counts.concepts) (entry_of (at 1 (fields line)) (start + start_by 0 ends 1)) (hint_at concepts_from (at 1 (fields line))) numbers → (k : ℕ) (x : Said) → Stands W sheet t m s x
        → Stands W sheet (table_of numbers (more_concepts t.counts)) m s (line_said k x line)
    concept-taken ends numbers v noted k x st =
        by_form k x
        (rw told
        (stands-concept st k (body_of (fields line)) (rw told at accepted.started) noted.long
        (rw (named-at (rw told) due.NewConcept (rw told) refl) (declared-concept tidy (at 1 (fields line)) _ (entry-is ends v (concept-name-good (at 1 (fields line)) concept-name.well).0) noted concept-name))))

  module _ (told : f ≡ form.Role) where
    role-name : New is_name role_limit (names_of sheet t).roles (at 1 (fields line))
    role-name = role-new (names_of sheet t) (at 1 (fields line)) (new-fault (rw told) due.NewRole (rw told) refl)

    pub role-declared : Declaration line
    role-declared = declaration role-name.well

    pub role-room : t.counts.roles < role_limit
    role-room = omega (arith, role-name.few, entered-length sheet t.numbers roles_from t.counts.roles (omega (arith, tidy.long, tidy.room.roles)))

    pub role-taken : (ends numbers : List ℕ) → Looked line ends → Noted t.numbers (roles_from + t.counts.roles) (entry_of (at 1 (fields line)) (start + start_by 0 ends 1)) (hint_at roles_from (at 1 (fields line))) numbers → (k : ℕ) (x : Said) → Stands W sheet t m s x
        → Stands W sheet (table_of numbers (more_roles t.counts)) m s (line_said k x line)
    role-taken ends numbers v noted k x st =
        by_form k x
        (rw told
        (stands-role st k (body_of (fields line)) (rw told at accepted.started) noted.long
        (rw (named-at (rw told) due.NewRole (rw told) refl) (declared-role tidy (at 1 (fields line)) _ (entry-is ends v role-name.well) noted role-name))))

  module _ (told : f ≡ form.Item) where
    item-name : New is_name (room_of t.numbers) (names_of sheet t).items (at 1 (fields line))
    item-name = item-new (names_of sheet t) (at 1 (fields line)) (new-fault (rw told) due.NewItem (rw told) refl)

    pub item-declared : Declaration line
    item-declared = declaration item-name.well

    pub item_room : t.counts.items < room_of t.numbers
    item_room = omega (arith, item-name.few, entered-length sheet t.numbers items_from t.counts.items (omega (arith, tidy.long, tidy.room.items)))

    -- there is a place for it, and any store has room for so many
    pub item-place : items_from + room_of t.numbers ≤ length t.numbers
    item-place = omega (arith, tk.stands.room, tk.stands.places)

    pub item-most : W ≤ large → room_of t.numbers ≤ item_limit large
    item-most h = omega (arith, tk.stands.room)

    pub item-taken : W ≤ large → (ends numbers : List ℕ) → Looked line ends → Noted t.numbers (items_from + t.counts.items) (entry_of (at 1 (fields line)) (start + start_by 0 ends 1)) (hint_at items_from (at 1 (fields line))) numbers → (k : ℕ) (x : Said) → Stands W sheet t m s x
        → Stands W sheet (table_of numbers (more_items t.counts)) m s (line_said k x line)
    item-taken w ends numbers v noted k x st =
        by_form k x
        (rw told
        (stands-item st k (body_of (fields line)) (rw told at accepted.started) noted.long item_room
        (rw (named-at (rw told) due.NewItem (rw told) refl) (declared-item tidy (at 1 (fields line)) _ (entry-is ends v item-name.well) item-place (item-most w) noted item-name))))

  -- ---- the lines that are no declarations

  statement-body : (w : StatementWord) → f ≡ form.Statement w → drop 1 (fields line) ≡ body_of (fields line)
  statement-body w told = rw told at after-words

  -- a rule for which there is room
  pub rule-room : (w : RuleWord) → f ≡ form.Rule w → m.rules < rule_limit
  rule-room w told = leb-false rule_limit m.rules (rw told at accepted.room)

  pub statement-taken : (w : StatementWord) → f ≡ form.Statement w → {t' : Table} {m' : Marks} {s' : List ℕ}
      → ((k : ℕ) (x : Said) → Stands W sheet t m s x → Stands W sheet t' m' s' (saying k x (form.Statement w) (drop 1 (fields line)))) → (k : ℕ) (x : Said) → Stands W sheet t m s x → Stands W sheet t' m' s' (line_said k x line)
  statement-taken w told h k x st = by_form k x (rw told (rw (statement-body w told) at (h k x st)))

  pub rule-taken : (w : RuleWord) → f ≡ form.Rule w → {s1 : List ℕ} → Begins W (begun m) t.counts s s1 → (k : ℕ) (x : Said) → Stands W sheet t m s x
      → Stands W sheet t (record { stated = m.stated; rules = m.rules + 1 }) s1 (line_said k x line)
  rule-taken w told h k x st = by_form k x (rw told (stands-rule st k w (body_of (fields line)) (rule-room w told) h))

  pub bare-taken : f ≡ form.Bare → (k : ℕ) (x : Said) → Stands W sheet t m s x → Stands W sheet t m s (line_said k x line)
  bare-taken told k x st = by_form k x (rw told st)

  pub unknown-taken : f ≡ form.Unknown → (k : ℕ) (x : Said) → Stands W sheet t m s x → Stands W sheet t m s (line_said k x line)
  unknown-taken told k x st = by_form k x (rw told st)

  -- a line that is neither a declaration nor a statement nor a rule says nothing
  pub other-taken : (f ≡ form.Concept → ⊥) → (f ≡ form.Role → ⊥) → (f ≡ form.Item → ⊥) → ((w : RuleWord) → f ≡ form.Rule w → ⊥) → ((w : StatementWord) → f ≡ form.Statement w → ⊥)
      → (k : ℕ) (x : Said) → Stands W sheet t m s x → Stands W sheet t m s (line_said k x line)
  other-taken c r i u w = go f refl
    where
      go : (g : Form) → f ≡ g → (k : ℕ) (x : Said) → Stands W sheet t m s x → Stands W sheet t m s (line_said k x line)
      go form.Concept e = absurd (c e)
      go form.Role e = absurd (r e)
      go form.Item e = absurd (i e)
      go (form.Statement v) e = absurd (w v e)
      go (form.Rule v) e = absurd (u v e)
      go form.Bare e = bare-taken e
      go form.Unknown e = unknown-taken e
