-- `field::code::few` meets its contract. Assumes nothing.
use Rattle.std.proofs.Common.{arith}
use Rattle.field.specs.laws.Code.{number-0, number-1, number-2, number-3}
use Rattle.field.proofs.code.few.Goals as goal

pub returns-in-0 : goal.returns-in-0
returns-in-0 c = (omega (arith, number-0 c.args.f.now c.in-0.is), omega arith)

pub returns-in-1 : goal.returns-in-1
returns-in-1 c = let f = c.type_inv.f in
    (omega (arith, number-1 c.args.f.now c.in-1.is), omega (arith, (f 0).fits))

pub returns-in-2 : goal.returns-in-2
returns-in-2 c = let f = c.type_inv.f in
    (omega (arith, number-2 c.args.f.now c.in-2.is), omega (arith, (f 0).fits, (f 1).fits))

pub returns-in_default : goal.returns-in_default
returns-in_default c = let f = c.type_inv.f in
    (omega (arith, number-3 c.args.f.now (omega arith)), omega (arith, (f 0).fits, (f 1).fits, (f 2).fits))
