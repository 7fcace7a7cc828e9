-- The examples of document 01 that are marked P, as one list: a field each, in the document's words; one field more, `five-items-room`, says what a shorter room gives.
use Rattle.std.specs.Prelude.{◌≡◌, true, false, List, [], ◌∷◌, ℕ, ◌≤◌, ◌<◌, length}
use Rattle.row.specs.Bit.{Words}
use Rattle.store.specs.declared.Counts.{Counts}
use Rattle.store.specs.declared.Concept.{Concept}
use Rattle.closure.specs.Refusal.{Answer}
use Rattle.std.specs.Prelude.{Ok}
use Rattle.store.specs.declared.Statement.{Statement}
use Rattle.store.specs.declared.Statement.TheVariants as statement
use Rattle.store.specs.Cell.{Nothing, DeclaredItem}
use Rattle.store.specs.Cell.Cell.{Same, RoleUnder, Link}
use Rattle.store.specs.Layout.{ClosedStore, Fits, Holds, large}
use Rattle.store.specs.Keeps.{Keeps}
use Rattle.closure.specs.Promise.{Adds}
use Rattle.closure.specs.Lines.{Stated}
use Rattle.rule.specs.declared.Finding.{Finding}
use Rattle.rule.specs.declared.Head.TheVariants.{Sub, Ref}
use Rattle.rule.specs.declared.Node.TheVariants.{Name, AtLeast}
use Rattle.rule.specs.declared.RoleUse.{RoleUse}
use Rattle.rule.specs.declared.Rule.{Rule}
use Rattle.rule.specs.Form.{node_at}
use Rattle.rule.specs.Expr.Expr.{name, many}
use Rattle.rule.specs.Findings.{Findings}
use Rattle.query.specs.Outcome.{Outcome}
use Rattle.query.specs.Outcome.{compiled_as}
use Rattle.std.specs.Prelude.{Err}
use Rattle.query.specs.declared.QueryRefusal.TheVariants.{Room}
use Rattle.body.specs.Body.{size}
use Rattle.body.specs.Translation.{of_expr}
use Rattle.query.specs.Promise.{Compiles}
use Rattle.text.specs.Bytes.{bytes}
use Rattle.text.specs.Date.{date_shaped}

-- two items, nothing else
abbrev pub two_items : Counts
two_items = record { items = 2; concepts = 0; roles = 0 }

-- a rule `ref R` of whatever role
pub record IsRef (u : Rule) : Type 0 where
  pub role : RoleUse
  pub head : u.head ≡ Ref role

-- three items (0 c, 1 d1, 2 d2), two concepts (0 C, 1 D), one role (0 R)
abbrev pub three_items : Counts
three_items = record { items = 3; concepts = 2; roles = 1 }

-- c in C, linked to d1 and d2 in D
abbrev pub two_links : List Statement
two_links =
    statement.In (record { 0 = 0 }) (record { 0 = 0 }) ∷ statement.Link (record { 0 = 0 }) (record { 0 = 0 }) (record { 0 = 1 })
    ∷ statement.Link (record { 0 = 0 }) (record { 0 = 0 }) (record { 0 = 2 }) ∷ statement.In (record { 0 = 1 }) (record { 0 = 1 })
    ∷ statement.In (record { 0 = 2 }) (record { 0 = 1 }) ∷ []

-- d1 same as d2
abbrev pub same_links : Statement
same_links = statement.Same (record { 0 = 1 }) (record { 0 = 2 })

-- the rule `sub C atleast k R D`: node 0 is C, node 1 at least k R of node 2, node 2 is D; concept 0 is C and 1 D, role 0 is R. With k = 1 it is `sub Blade some fits Hub`
pub record IsAtLeast (k : ℕ) (u : Rule) : Type 0 where
  pub head : u.head ≡ Sub 0 1
  pub left : node_at u.nodes 0 ≡ Name (record { 0 = 0 })
  pub right : node_at u.nodes 1 ≡ AtLeast k (record { role = record { 0 = 0 }; inverse = false }) 2
  pub filler : node_at u.nodes 2 ≡ Name (record { 0 = 1 })

-- the rule `sub Blade some fits Hub`, among counts within the limits that have its two concepts and its role
pub record BladesFit (n : Counts) (u : Rule) : Type 0 where
  pub fits : Fits large n
  pub concepts : 2 ≤ n.concepts
  pub roles : 1 ≤ n.roles
  pub nodes : u.len ≡ 3
  pub rule : IsAtLeast 1 u

-- all the examples that are marked P, in the stores of row width W
pub record Examples (W : ℕ) : Type 0 where
  -- R under inverse of R, R links a to b: R links b to a
  pub own-inverse : {n : Counts} {s : List ℕ} {r a b : ℕ} → ClosedStore W n s → Holds W n s (RoleUnder r true r) → Holds W n s (Link r a b) → Holds W n s (Link r b a)
  -- R under inverse of S, S under inverse of T: R under T
  pub inverse-twice : {n : Counts} {s : List ℕ} {r q t : ℕ} → ClosedStore W n s → Holds W n s (RoleUnder r true q) → Holds W n s (RoleUnder q true t)
      → Holds W n s (RoleUnder r false t)
  -- `same a a` on a fresh store: 0 new cells
  pub same-itself : {n : Counts} {s t : List ℕ} {a : ℕ} {r : Answer} → DeclaredItem n a → Words 64 s → Words 64 t → Keeps W n Nothing s → Adds W n (Same a a) s t r → r ≡ Ok 0
  -- `same a b`, two items, nothing else: 2
  pub same-two : {s t : List ℕ} {r : Answer} → Keeps W two_items Nothing s → Adds W two_items (Same 0 1) s t r → r ≡ Ok 2
  -- no items, `ref`: 0 findings
  pub ref-none : {n : Counts} {s : List ℕ} {k : ℕ} {u : Rule} {fs : List Finding} → n.items ≡ 0 → IsRef u → Findings (Holds W n s) n k u fs → length fs ≡ 0
  -- one item, no links, `ref`: 1
  pub ref-one : {n : Counts} {s : List ℕ} {k : ℕ} {u : Rule} {fs : List Finding} → n.items ≡ 1 → ((r a b : ℕ) → ¬ (Holds W n s (Link r a b))) → IsRef u
      → Findings (Holds W n s) n k u fs → length fs ≡ 1
  -- c in C, linked to d1 and d2 in D: `sub C atleast 2 R D` 0 findings
  pub two-articles : {s : List ℕ} {k : ℕ} {u : Rule} {fs : List Finding} → Keeps W three_items (Stated two_links) s → IsAtLeast 2 u → Findings (Holds W three_items s) three_items k u fs
      → length fs ≡ 0
  -- with d1 same as d2: 1
  pub one-article : {s : List ℕ} {k : ℕ} {u : Rule} {fs : List Finding} → Keeps W three_items (Stated (same_links ∷ two_links)) s → IsAtLeast 2 u
      → Findings (Holds W three_items s) three_items k u fs → length fs ≡ 1
  -- `sub Blade some fits Hub`: 5 query items and 1 answer variable, in a room of 20 words or more
  pub five-items : {n : Counts} {u : Rule} {before after : List ℕ} {r : Outcome} → BladesFit n u → 20 ≤ length before → Compiles large n u before after r → r ≡ compiled_as 5 1
  -- and in a shorter one it is refused by 6
  pub five-items-room : {n : Counts} {u : Rule} {before after : List ℕ} {r : Outcome} → BladesFit n u → length before < 20 → Compiles large n u before after r → r ≡ Err Room
  -- at least 2 R D: 7; 3: 15, for each role, each concept, each term and whatever the next variable
  pub seven-items : (r : RoleUse) (d : Concept) (t v : ℕ) → size (of_expr (many 2 r (name d)) t v) ≡ 7
  pub fifteen-items : (r : RoleUse) (d : Concept) (t v : ℕ) → size (of_expr (many 3 r (name d)) t v) ≡ 15
  -- 3-Mar, 03-MAR date-shaped
  pub dates : (date_shaped (bytes "3-Mar") ≡ true) × (date_shaped (bytes "03-MAR") ≡ true)
  -- MAR-03, 32-Mar, 0-Mar, 003-Mar not
  pub no-dates : (date_shaped (bytes "MAR-03") ≡ false) × (date_shaped (bytes "32-Mar") ≡ false) × (date_shaped (bytes "0-Mar") ≡ false) × (date_shaped (bytes "003-Mar") ≡ false)
