-- `answer::reply::cell` meets its contract. Assumes nothing.
use Rattle.answer.specs.laws.Reply.{cell-false, cell-none, cell-true, known-asked, known-judges}
use Rattle.answer.proofs.reply.cell.Goals as goal

pub returns-in_default : goal.returns-in_default
returns-in_default c = cell-none c.requires.0 c.args.q.now c.in_default.ensures c.refuse.ensures

pub invariant_of-view : goal.invariant_of-view
invariant_of-view c = record { laid = c.requires.1; closed = (known-judges c.requires.0 c.args.known.now.tidy).store }

pub returns-then-not-told : goal.returns-then-not-told
returns-then-not-told c = cell-false c.requires.0 c.args.q.now c.in-Some.s c.in-Some.ensures (c.told.ensures.fails c.if-not-told.true) c.refuse-then-not-told.ensures

pub explain-requires : goal.explain-requires
explain-requires c = (known-asked c.requires.0 _ (c.told.ensures.holds c.if-not-told.false), c.requires.2)

pub returns : goal.returns
returns c = cell-true c.requires.0 c.args.q.now c.in-Some.s c.in-Some.ensures c.explain.ensures
