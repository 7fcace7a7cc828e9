-- `question::ask::stated` meets its contract. Assumes nothing.
use Rattle.std.proofs.Common.{sym, ◌∙◌}
use Rattle.stated.specs.laws.Stated.{statement-body}
use Rattle.question.proofs.ask.stated.Goals as goal

pub returns-in-Statement : goal.returns-in-Statement
returns-in-Statement c = let e = sym c.form.ensures ∙ c.in-Statement.is in rw (e, c.statement.ensures, statement-body c.args.q.now.line.now _ e)
