-- The numbers of names, and the statement of a line, read from fields whose names are declared.
use Rattle.std.specs.Prelude.{List}
use Rattle.text.specs.Bytes.{place}
use Rattle.store.specs.Cell.{turn}
use Rattle.store.specs.declared.Concept.{Concept}
use Rattle.store.specs.declared.Item.{Item}
use Rattle.store.specs.declared.Role.{Role}
use Rattle.store.specs.declared.Statement.{Statement}
use Rattle.store.specs.declared.Statement.TheVariants as stated
use Rattle.rule.specs.declared.RoleUse.{RoleUse}
use Rattle.field.specs.declared.StatementWord.{StatementWord}
use Rattle.field.specs.declared.StatementWord.TheVariants as statement
use Rattle.field.specs.Names.{Names, plain, inverted}
use Rattle.field.specs.Words.{Field, at}

-- the numbers of names: their places in the order of declaration
abbrev pub concept_of : Names → Field → Concept
concept_of n f = record { 0 = place f n.concepts }

abbrev pub role_of : Names → Field → Role
role_of n f = record { 0 = place f n.roles }

abbrev pub item_of : Names → Field → Item
item_of n f = record { 0 = place f n.items }

-- a role or its inverse
abbrev pub role_use_of : Names → Field → RoleUse
role_use_of n f = record { role = role_of n (plain f); inverse = inverted f }

-- the statement that the fields after the word say; `~` on one side of `runder`, and not on both, makes it a step to the inverse
abbrev pub statement_of : Names → StatementWord → List Field → Statement
statement_of n statement.In fs = stated.In (item_of n (at 0 fs)) (concept_of n (at 1 fs))
statement_of n statement.Rel fs = stated.Link (role_of n (at 0 fs)) (item_of n (at 1 fs)) (item_of n (at 2 fs))
statement_of n statement.Same fs = stated.Same (item_of n (at 0 fs)) (item_of n (at 1 fs))
statement_of n statement.Under fs = stated.Under (concept_of n (at 0 fs)) (concept_of n (at 1 fs))
statement_of n statement.RoleUnder fs = stated.RoleUnder (role_of n (plain (at 0 fs))) (turn (inverted (at 0 fs)) (inverted (at 1 fs))) (role_of n (plain (at 1 fs)))
