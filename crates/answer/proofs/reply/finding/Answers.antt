-- `answer::reply::finding` meets its contract. Assumes nothing.
use Rattle.answer.specs.laws.Reply.{finding-asked, finding-none, finding-true, known-judges}
use Rattle.answer.proofs.reply.finding.Goals as goal

pub finding-requires : goal.finding-requires
finding-requires c = (known-judges c.requires.0 c.args.known.now.tidy, c.requires.1, c.requires.2)

pub returns-in_default : goal.returns-in_default
returns-in_default c = finding-none c.requires.0 c.args.q.now c.requires.1 c.in_default.ensures c.refuse.ensures

pub explain-requires : goal.explain-requires
explain-requires c = (finding-asked c.requires.0 c.args.q.now c.requires.1 c.in-Some.f c.in-Some.ensures, c.requires.3)

pub returns : goal.returns
returns c = finding-true c.requires.0 c.args.q.now c.requires.1 c.in-Some.f c.in-Some.ensures c.explain.ensures
