-- `question::ask::about_finding` meets its contract. Assumes nothing.
use Rattle.question.specs.Question.{about_finding}
use Rattle.question.specs.laws.Asked.{first_field}
use Rattle.question.proofs.ask.about_finding.Goals as goal

pub returns : goal.returns
unfolding about_finding
returns c = rw (← first_field c.args.q.now, ← c.field.ensures) c.same.ensures
