-- `reason::code::code` meets its contract: each kind of statement has its number. Assumes nothing.
use Rattle.std.proofs.Common.{arith}
use Rattle.reason.specs.laws.Code.{cell-number}
use Rattle.reason.proofs.code.code.Goals as goal

pub returns-in-Same : goal.returns-in-Same
returns-in-Same c = let p = rw c.in-Same.is at c.requires in rw c.in-Same.is (cell-number _ 0 _ _ 0 (omega arith) p.0 p.1 c.number.ensures)

pub returns-in-Under : goal.returns-in-Under
returns-in-Under c = let p = rw c.in-Under.is at c.requires in rw c.in-Under.is (cell-number _ 1 _ _ 0 (omega arith) p.0 p.1 c.number-in-Under.ensures)

pub returns-in-In : goal.returns-in-In
returns-in-In c = let p = rw c.in-In.is at c.requires in rw c.in-In.is (cell-number _ 4 _ _ 0 (omega arith) p.0 p.1 c.number-in-In.ensures)

pub returns-in-Link : goal.returns-in-Link
returns-in-Link c = let p = rw c.in-Link.is at c.requires in rw c.in-Link.is (cell-number _ 5 _ _ _ (omega arith) p.1 p.2 c.number-in-Link.ensures)

pub returns-then-u : goal.returns-then-u
returns-then-u c = let p = rw c.in-RoleUnder.is at c.requires in rw (c.in-RoleUnder.is, c.if-u.true) (cell-number _ 3 _ _ 0 (omega arith) p.0 p.1 c.number-then-u.ensures)

pub returns-else-u : goal.returns-else-u
returns-else-u c = let p = rw c.in-RoleUnder.is at c.requires in rw (c.in-RoleUnder.is, c.if-u.false) (cell-number _ 2 _ _ 0 (omega arith) p.0 p.1 c.number-else-u.ensures)
