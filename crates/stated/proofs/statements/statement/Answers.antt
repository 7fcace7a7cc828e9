-- `stated::statements::statement` meets its contract. Assumes nothing.
use Rattle.stated.specs.laws.Fields.{field-from, first-from}
use Rattle.stated.proofs.statements.statement.Goals as goal

pub returns-in-Rel : goal.returns-in-Rel
returns-in-Rel c = rw c.in-Rel.is (rw (← first-from _ c.args.from, ← field-from _ c.args.from 1, ← field-from _ c.args.from 2) (cc))

pub returns-in-Same : goal.returns-in-Same
returns-in-Same c = rw c.in-Same.is (rw (← first-from _ c.args.from, ← field-from _ c.args.from 1) (cc))

pub returns-in-Under : goal.returns-in-Under
returns-in-Under c = rw c.in-Under.is (rw (← first-from _ c.args.from, ← field-from _ c.args.from 1) (cc))
