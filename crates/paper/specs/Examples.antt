-- The examples of 000 that lie within our language, in its words. Names are numbers in the order in which an example uses them.
use Rattle.std.specs.Prelude.{◌≡◌, ◌↔◌, false, List, [], ◌∷◌, ℕ}
use Rattle.store.specs.declared.Counts.{Counts}
use Rattle.store.specs.declared.Statement.{Statement}
use Rattle.store.specs.declared.Statement.TheVariants as statement
use Rattle.store.specs.Cell.{Cell, Follows, Within}
use Rattle.store.specs.Cell.Cell.{In, Link}
use Rattle.closure.specs.Lines.{Stated}
use Rattle.rule.specs.declared.Head.TheVariants.{Sub, Ref, Irr}
use Rattle.rule.specs.declared.Node.TheVariants.{Name, Top, Not, AtLeast}
use Rattle.rule.specs.declared.RoleUse.{RoleUse}
use Rattle.rule.specs.declared.Rule.{Rule}
use Rattle.std.specs.Prelude.{None}
use Rattle.rule.specs.Breaks.{Breaks}
use Rattle.paper.specs.Interpretation.{Entails}
use Rattle.paper.specs.Satisfied.{ICSatisfies}

-- the role of number 0
abbrev pub role0 : RoleUse
role0 = record { role = record { 0 = 0 }; inverse = false }

-- `sub A atleast k R B`: the first concept, and k or more R of the second
abbrev pub sub_at_least : ℕ → Rule
sub_at_least k = record {
  head = Sub 0 1;
  len = 3;
  nodes = record { node = Name (record { 0 = 0 }) } ∷ record { node = AtLeast k role0 2 } ∷ record { node = Name (record { 0 = 1 }) } ∷ [];
}

-- `sub A atmost 1 R top`
abbrev pub sub_at_most_one : Rule
sub_at_most_one = record {
  head = Sub 0 1;
  len = 4;
  nodes = record { node = Name (record { 0 = 0 }) } ∷ record { node = Not 2 } ∷ record { node = AtLeast 2 role0 3 } ∷ record { node = Top } ∷ [];
}

-- item a is in concept b; role 0 links a to b
abbrev pub is_in : ℕ → ℕ → Statement
is_in a b = statement.In (record { 0 = a }) (record { 0 = b })

abbrev pub links : ℕ → ℕ → Statement
links a b = statement.Link (record { 0 = 0 }) (record { 0 = a }) (record { 0 = b })

-- a number of items, two concepts, one role
abbrev pub named : ℕ → Counts
named m = record { items = m; concepts = 2; roles = 1 }

-- Example 1: Product(p)
abbrev pub example1 : List Statement
example1 = is_in 0 0 ∷ []

-- Example 2: Product(p), hasProducer(p, m1), hasProducer(p, m2)
abbrev pub example2 : List Statement
example2 = is_in 0 0 ∷ links 0 1 ∷ links 0 2 ∷ []

-- Example 7: C(c), R(c, d1), R(c, d2), D(d1), D(d2)
abbrev pub example7 : List Statement
example7 = is_in 0 0 ∷ links 0 1 ∷ links 0 2 ∷ is_in 1 1 ∷ is_in 2 1 ∷ []

-- the items 1 and 2 are the same
abbrev pub one_article : Statement
one_article = statement.Same (record { 0 = 1 }) (record { 0 = 2 })

-- what 000 says of them
pub record Examples : Type 1 where
  -- Example 1: Product under some hasProducer Producer is violated
  pub example-1 : ¬ (ICSatisfies (named 1) (Stated example1) (sub_at_least 1))
  -- Example 2: Product under at most 1 hasProducer top is violated
  pub example-2 : ¬ (ICSatisfies (named 3) (Stated example2) sub_at_most_one)
  -- Example 7: C under at least 2 R D is satisfied
  pub example-7 : ICSatisfies (named 3) (Stated example7) (sub_at_least 2)
  -- and violated where d1 and d2 are stated to be the same: elements are counted, not names
  pub example-7-same : ¬ (ICSatisfies (named 3) (Stated (one_article ∷ example7)) (sub_at_least 2))
  -- Example 10: the findings of Example 1's rule are the answers of the query Product(x), not (hasProducer(x, y), Producer(y)), for any statements
  pub example-10 : {n : Counts} {lines : List Statement} → ((c : Cell) → Stated lines c → Within n c) → (x : ℕ)
      → Breaks (Follows n (Stated lines)) n (sub_at_least 1) x None
      ↔ (Entails n (Stated lines) (In x 0) × ¬ ((y : ℕ) × Entails n (Stated lines) (Link 0 x y) × Entails n (Stated lines) (In y 1)))
  -- under Table 2: where no item is declared, every role is both reflexive and irreflexive
  pub no_items : {n : Counts} {G : Cell → Type 0} {u v : Rule} {r : RoleUse} → n.items ≡ 0 → u.head ≡ Ref r → v.head ≡ Irr r → ICSatisfies n G u × ICSatisfies n G v
