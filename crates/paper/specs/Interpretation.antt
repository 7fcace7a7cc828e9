-- Interpretations of the declared names, models, and models with minimal equality: source 000, sections 3.1 and 4.1.
use Rattle.std.specs.Prelude.{◌≡◌, ◌↔◌, Bool, true, false, ℕ}
use Rattle.store.specs.declared.Counts.{Counts}
use Rattle.store.specs.Cell.{Cell, Within}
use Rattle.store.specs.Cell.Cell.{Same, Under, RoleUnder, In, Link}

-- 000, section 3.1: an interpretation has a domain and a value for each name: a set of elements for a concept, a set of pairs for a role, an element
-- for an item. A number that no item has is given an element too, so that the domain is not empty; nothing looks at the values of undeclared numbers.
pub record Interpretation : Type 1 where
  pub domain : Type 0
  pub concept : ℕ → domain → Type 0
  pub role : ℕ → domain → domain → Type 0
  pub item : ℕ → domain

-- 000, section 3.1: the value of a role or, where the sign is true, of its inverse
abbrev pub RoleOf : (I : Interpretation) → Bool → ℕ → I.domain → I.domain → Type 0
RoleOf I false r d e = I.role r d e
RoleOf I true r d e = I.role r e d

-- 000, Table 1: the condition that a statement of each of the five kinds puts on an interpretation
abbrev pub Condition : Interpretation → Cell → Type 0
Condition I (Same a b) = I.item a ≡ I.item b
Condition I (Under a b) = (d : I.domain) → I.concept a d → I.concept b d
Condition I (RoleUnder r u s) = (d e : I.domain) → I.role r d e → RoleOf I u s d e
Condition I (In a b) = I.concept b (I.item a)
Condition I (Link r a b) = I.role r (I.item a) (I.item b)

-- 000, section 3.1: an interpretation satisfies a statement if this is made of declared names and its condition holds
pub record Satisfies (n : Counts) (I : Interpretation) (c : Cell) : Type 0 where
  pub within : Within n c
  pub condition : Condition I c

-- 000, section 3.1, Mod(K): a model of the statements satisfies them all
pub record Model (n : Counts) (Given : Cell → Type 0) (I : Interpretation) : Type 0 where
  pub satisfies : (c : Cell) → Given c → Satisfies n I c

-- 000, section 3.1, K entails a statement: every model satisfies it
pub record Entails (n : Counts) (Given : Cell → Type 0) (c : Cell) : Type 1 where
  pub everywhere : (I : Interpretation) → Model n Given I → Satisfies n I c

-- 000, section 4.1: J is less than I with respect to equality. They agree on which items are in which concepts and which roles link them, and the
-- items that J makes equal are some, not all, of those that I makes equal.
pub record Less (n : Counts) (J I : Interpretation) : Type 0 where
  pub concepts : (a b : ℕ) → Satisfies n J (In a b) ↔ Satisfies n I (In a b)
  pub roles : (r a b : ℕ) → Satisfies n J (Link r a b) ↔ Satisfies n I (Link r a b)
  pub some : (a b : ℕ) → Satisfies n J (Same a b) → Satisfies n I (Same a b)
  pub not-all : ¬ ((a b : ℕ) → Satisfies n I (Same a b) → Satisfies n J (Same a b))

-- 000, section 4.1, Mod_ME(K): the models with minimal equality
pub record Minimal (n : Counts) (Given : Cell → Type 0) (I : Interpretation) : Type 1 where
  pub model : Model n Given I
  pub least : (J : Interpretation) → Model n Given J → ¬ (Less n J I)
