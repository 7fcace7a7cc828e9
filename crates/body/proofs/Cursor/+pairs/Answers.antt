-- `Cursor::pairs` meets its contract: the nots of the first variable, and those of the others. Assumes nothing.
use Rattle.std.proofs.Common.{arith}
use Rattle.body.specs.laws.Writing.{pairs-none, pairs-room, pairs-rest, pairs-done}
use Rattle.body.proofs.Cursor.+pairs.Goals as goal

pub returns-then-n-eq0 : goal.returns-then-n-eq0
returns-then-n-eq0 t c = pairs-none _ _ _ _ _ c.if-n-eq0.true

pub overflow_add-y : goal.overflow_add-y
overflow_add-y t c = let h = (pairs-room _ _ _ _ _ c.if-n-eq0.false c.requires).1 in omega arith

pub apart-requires : goal.apart-requires
apart-requires t c = (pairs-room _ _ _ _ _ c.if-n-eq0.false c.requires).0

pub overflow_add-y-2 : goal.overflow_add-y-2
overflow_add-y-2 t c = let h = (pairs-room _ _ _ _ _ c.if-n-eq0.false c.requires).1 in omega arith

pub pairs-requires : goal.pairs-requires
pairs-requires t c = ((let e = c.decreases in let n = c.if-n-eq0.false in omega arith), pairs-rest _ _ _ _ _ _ _ c.if-n-eq0.false c.requires c.apart.ensures)

pub returns : goal.returns
returns t c = pairs-done _ _ _ _ _ _ _ _ _ c.if-n-eq0.false c.apart.ensures c.pairs.ensures
