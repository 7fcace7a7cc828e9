-- `reader::scan::mask` meets its contract. Assumes nothing.
use Rattle.std.proofs.Common.{◌+◌, ◌-◌, ◌%◌, refl, arith}
use Rattle.reader.specs.laws.Mask.{masks}
use Rattle.reader.proofs.scan.mask.Goals as goal

pub returns : goal.returns
returns c = let x = c.args.x in
    masks x _ ((11502087481254191007 + (18446744073709551616 - x)) % 18446744073709551616) _ (omega arith) refl (omega arith) (omega arith) refl
