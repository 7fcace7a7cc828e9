-- `answer::reply::explain` meets its contract. Assumes nothing.
use Rattle.std.proofs.Common.{refl}
use Rattle.reason.specs.laws.Picked.{clear-zeros}
use Rattle.answer.specs.laws.Reply.{asked-accepted, reason-said}
use Rattle.answer.proofs.reply.explain.Goals as goal

pub reasoned-requires : goal.reasoned-requires
reasoned-requires c = (c.requires.0, refl, (λ j. clear-zeros 103 j), c.requires.1)

pub fit-requires : goal.fit-requires
fit-requires c = asked-accepted c.requires.0

pub returns : goal.returns
returns c = λ W x o m. reason-said W _ o m (c.reasoned.ensures W x o m) c.fit.ensures
