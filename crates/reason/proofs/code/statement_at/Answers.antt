-- `reason::code::statement_at` meets its contract: each kind of number has its statement. Assumes nothing.
use Rattle.std.proofs.Common.{sym, arith}
use Rattle.reason.specs.laws.Code.{cell-kind, cell-link}
use Rattle.reason.proofs.code.statement_at.Goals as goal

pub returns-in-0 : goal.returns-in-0
returns-in-0 c = sym (cell-kind _ 0 c.in-0.is)

pub returns-in-1 : goal.returns-in-1
returns-in-1 c = sym (cell-kind _ 1 c.in-1.is)

pub returns-in-2 : goal.returns-in-2
returns-in-2 c = sym (cell-kind _ 2 c.in-2.is)

pub returns-in-3 : goal.returns-in-3
returns-in-3 c = sym (cell-kind _ 3 c.in-3.is)

pub returns-in-4 : goal.returns-in-4
returns-in-4 c = sym (cell-kind _ 4 c.in-4.is)

pub returns-in_default : goal.returns-in_default
returns-in_default c = sym (cell-link _ (omega arith) (omega arith) (omega arith) (omega arith) (omega arith))
