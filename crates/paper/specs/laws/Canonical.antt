-- The model whose named elements are the articles: it satisfies exactly what follows. Assumes nothing.
use Rattle.std.specs.Prelude.{◌≡◌, ◌↔◌, ℕ, refl}
use Rattle.std.proofs.Math.Path.{ap}
use Rattle.std.proofs.Math.Bool.{true, false}
use Rattle.store.specs.declared.Counts.{Counts}
use Rattle.store.specs.Cell.{Cell, DeclaredItem, Follows, Obeys, Within}
use Rattle.store.specs.Cell.Cell.{Same, Under, RoleUnder, In, Link}
use Rattle.store.specs.Cell.Follows.{given}
use Rattle.store.specs.laws.Least.{follows-obeys, least, obeys-iff, within-obeys}
use Rattle.paper.specs.Interpretation.{Interpretation, Condition, Satisfies, Model}
use Rattle.paper.specs.laws.Leader.{leader, leader-same, leader-joins, same-leader}

-- C is exactly what follows from statements that are made of declared names, and each cell can be told
pub record Settled (n : Counts) (Given C : Cell → Type 0) : Type 0 where
  pub stated : (c : Cell) → Given c → Within n c
  pub sound : (c : Cell) → C c → Follows n Given c
  pub whole : (c : Cell) → Follows n Given c → C c
  pub tell : (c : Cell) → Dec (C c)

-- The elements: an article, by its leader; a nameless member of each concept; a nameless pair for each role.
pub data Element : Type 0 where
  article : ℕ → Element
  member : ℕ → Element
  start : ℕ → Element
  finish : ℕ → Element

-- an element is in concept b
data Belongs (C : Cell → Type 0) (b : ℕ) : Element → Type 0 where
  named : {a : ℕ} → C (In a b) → Belongs C b (article a)
  nameless : {a : ℕ} → C (Under a b) → Belongs C b (member a)

-- role r links two elements
data Joined (C : Cell → Type 0) (r : ℕ) : Element → Element → Type 0 where
  linked : {a b : ℕ} → C (Link r a b) → Joined C r (article a) (article b)
  forth : {q : ℕ} → C (RoleUnder q false r) → Joined C r (start q) (finish q)
  back : {q : ℕ} → C (RoleUnder q true r) → Joined C r (finish q) (start q)

named_in : {C : Cell → Type 0} {a b : ℕ} → Belongs C b (article a) → C (In a b)
named_in (named h) = h

nameless-under : {C : Cell → Type 0} {a b : ℕ} → Belongs C b (member a) → C (Under a b)
nameless-under (nameless h) = h

joined-link : {C : Cell → Type 0} {r a b : ℕ} → Joined C r (article a) (article b) → C (Link r a b)
joined-link (linked h) = h

joined-forth-at : {C : Cell → Type 0} {r q p : ℕ} → Joined C r (start q) (finish p) → q ≡ p → C (RoleUnder q false r)
joined-forth-at (forth h) e = h

joined-forth : {C : Cell → Type 0} {r q : ℕ} → Joined C r (start q) (finish q) → C (RoleUnder q false r)
joined-forth j = joined-forth-at j refl

joined_back-at : {C : Cell → Type 0} {r q p : ℕ} → Joined C r (finish q) (start p) → q ≡ p → C (RoleUnder q true r)
joined_back-at (back h) e = h

joined_back : {C : Cell → Type 0} {r q : ℕ} → Joined C r (finish q) (start q) → C (RoleUnder q true r)
joined_back j = joined_back-at j refl

article-same : {a b : ℕ} → article a ≡ article b → a ≡ b
article-same e = cc

module _ {n : Counts} {G C : Cell → Type 0} (k : Settled n G C) where
  -- the cells obey the rules, and are within the counts
  pub settled-obeys : Obeys n C
  settled-obeys = obeys-iff k.whole k.sound (follows-obeys n G)

  pub settled-within : {c : Cell} → C c → Within n c
  settled-within {c} x = least (within-obeys n) k.stated (k.sound c x)

  -- the leader of an item
  abbrev pub lead : ℕ → ℕ
  lead a = leader settled-obeys k.tell a

  -- the model
  pub canonical : Interpretation
  canonical = record { domain = Element; concept = Belongs C; role = Joined C; item = λ a. article (lead a) }

  under-kept : {a b : ℕ} → C (Under a b) → (d : Element) → Belongs C a d → Belongs C b d
  under-kept x d (named h) = named (settled-obeys.in-under h x)
  under-kept x d (nameless h) = nameless (settled-obeys.under-trans h x)

  role_kept : {r s : ℕ} → C (RoleUnder r false s) → (d e : Element) → Joined C r d e → Joined C s d e
  role_kept x d e (linked h) = linked (settled-obeys.link-under h x)
  role_kept x d e (forth h) = forth (settled-obeys.role-trans h x)
  role_kept x d e (back h) = back (settled-obeys.role-trans h x)

  role-turned : {r s : ℕ} → C (RoleUnder r true s) → (d e : Element) → Joined C r d e → Joined C s e d
  role-turned x d e (linked h) = linked (settled-obeys.link-inverse h x)
  role-turned x d e (forth h) = back (settled-obeys.role-trans h x)
  role-turned x d e (back h) = forth (settled-obeys.role-trans h x)

  -- it satisfies each cell
  canonical-has : (c : Cell) → C c → Condition canonical c
  unfolding canonical
  canonical-has (Same a b) x = ap article (same-leader settled-obeys k.tell x)
  canonical-has (Under a b) x = under-kept x
  canonical-has (RoleUnder r false s) x = role_kept x
  canonical-has (RoleUnder r true s) x = role-turned x
  canonical-has (In a b) x = named (settled-obeys.in-same (leader-same settled-obeys k.tell (settled-within x).0) x)
  canonical-has (Link r a b) x =
      linked (settled-obeys.link-same (leader-same settled-obeys k.tell (settled-within x).1) (leader-same settled-obeys k.tell (settled-within x).2) x)

  -- and no other: of items in concepts and links, whatever the concept or the role
  pub canonical-in : {a b : ℕ} → DeclaredItem n a → canonical.concept b (canonical.item a) → C (In a b)
  unfolding canonical
  canonical-in w x = settled-obeys.in-same (settled-obeys.same-sym (leader-same settled-obeys k.tell w)) (named_in x)

  pub canonical-link : {r a b : ℕ} → DeclaredItem n a → DeclaredItem n b → canonical.role r (canonical.item a) (canonical.item b) → C (Link r a b)
  unfolding canonical
  canonical-link w v x =
      settled-obeys.link-same (settled-obeys.same-sym (leader-same settled-obeys k.tell w)) (settled-obeys.same-sym (leader-same settled-obeys k.tell v)) (joined-link x)

  canonical-only : (c : Cell) → Within n c → Condition canonical c → C c
  unfolding canonical
  canonical-only (Same a b) w x = leader-joins settled-obeys k.tell w.0 w.1 (article-same x)
  canonical-only (Under a b) w x = nameless-under (x (member a) (nameless (settled-obeys.under-refl w.0)))
  canonical-only (RoleUnder r false s) w x = joined-forth (x (start r) (finish r) (forth (settled-obeys.role-refl w.0)))
  canonical-only (RoleUnder r true s) w x = joined_back (x (start r) (finish r) (forth (settled-obeys.role-refl w.0)))
  canonical-only (In a b) w x = canonical-in w.0 x
  canonical-only (Link r a b) w x = canonical-link w.1 w.2 x

  -- the canonical model satisfies exactly what follows
  pub canonical-exact : (c : Cell) → C c ↔ Satisfies n canonical c
  canonical-exact c = (λ x. record { within = settled-within x; condition = canonical-has c x }, λ s. canonical-only c s.within s.condition)

  -- and is a model
  pub canonical-model : Model n G canonical
  canonical-model = record { satisfies = λ c g. (canonical-exact c).0 (k.whole c (given g)) }
